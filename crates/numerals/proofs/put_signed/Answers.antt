-- The test decides the sign, and the rest is how far the number is from zero.
use mathlib.Core.List.{◌∷◌}
use mathlib.Core.Path.{◌≡◌, ap, sym, ◌∙◌}
use Prim.Native.Nat.{ℕ}
use lib.IntN.{nat_abs}
use mir.Syntax.{w16}
use mir.Facts.{to_z-of_z}
use Rattle.wording.specs.Digits.{decimal, signed}
use Rattle.writer.proofs.Laws.{◌⟫◌, put_told}
use Rattle.numerals.proofs.Sign.{below, above}
use Rattle.numerals.proofs.put_signed.Goals as goal
use Rattle.numerals.proofs.put_signed.Goals.{then-n-lt0, else-n-lt0}

pub returns : goal.returns
unfolding signed
returns c =
    let f = c.ranges.n in
    let same = to_z-of_z f in
    let spelt : c.if-n-lt0.sign ∷ decimal c.unsigned_abs.result ≡ signed c.args.n =
    elim c.if-n-lt0.branch [
      | then-n-lt0 w ↦
          let b = (below w16 _ f w.if-n-lt0.true).0 in
          rw (w.sign-is, c.unsigned_abs.ensures.value, same) (ap (λ (n : ℕ). 45 ∷ decimal n) (ap nat_abs b) ∙ sym (ap signed b))
      | else-n-lt0 w ↦
          let a = (above w16 _ f w.if-n-lt0.false).0 in
          rw (w.sign-is, c.unsigned_abs.ensures.value, same) (ap (λ (n : ℕ). 43 ∷ decimal n) (ap nat_abs a) ∙ sym (ap signed a))
    ] in
    put_told spelt (c.put.ensures ⟫ c.put_decimal.ensures)
