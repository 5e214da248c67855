-- What listing a row answers along a listing. Assumes nothing.
use mathlib.Core.Path.{◌≡◌, refl, sym, ap, subst}
use mathlib.Core.Logic.{◌⊎◌, inl, inr}
use mathlib.Core.Bool.{false}
use mathlib.Core.List.{List}
use Prim.Native.Nat.{ℕ, ◌+◌, ◌-◌, ◌<◌, ◌≤◌}
use native.Mathlib.Omega.{arith}
use lib.ListN.{length, take, drop, length-take, length-drop}
use borrow.Author.Tests.{le-ltb, lt-leb}
use Rattle.table.specs.declared.Mode.{Mode}
use Rattle.table.specs.declared.Answer.{Answer}
use Rattle.table.specs.Decode.{number_of}
use Rattle.table.specs.Chip.{decode_in}
use Rattle.table.proofs.Answers.{nothing_exactly, long_exactly}
use Rattle.image.specs.Places.{wrong_size, outside, window, window_at}
use Rattle.listing.specs.Rows.{passed_of, Row, row_at}
use Rattle.listing.specs.Answers.{given, row_outcome}
use Rattle.listing.specs.Consequences.{Answered}
use Rattle.image.proofs.Window.{window_size}
use Rattle.listing.proofs.Passed.{passed_within}

module _ (mode : Mode) where
  -- a row's window is Done or Short: it is not empty, and has no more than four bytes
  told : (a : Answer) → (a ≡ Answer.Nothing → ⊥) → (a ≡ Answer.Long → ⊥) → (number_of a ≡ 0) ⊎ (number_of a ≡ 2)
  told Answer.Done nothing long = inl refl
  told Answer.Nothing nothing long = absurd (nothing refl)
  told (Answer.Short k) nothing long = inr refl
  told Answer.Long nothing long = absurd (long refl)

  pub done_or_short : (s : List ℕ) → 1 ≤ length s → (number_of (decode_in mode (window s)).answer ≡ 0) ⊎ (number_of (decode_in mode (window s)).answer ≡ 2)
  done_or_short s some =
      let n = window_size s in
      told (decode_in mode (window s)).answer (λ e. omega (arith, (nothing_exactly mode (window s)).0 e, n)) (λ e. omega (arith, (long_exactly mode (window s)).0 e, n))

  module _ (origin : ℕ) (image : List ℕ) (k : ℕ) (inside : k < length image) where
    -- the address of a place of the image is not outside, and the place is found again
    within : outside image origin (origin + k) ≡ false
    within = rw (le-ltb (origin + k) origin (omega arith), lt-leb (origin + length image) (origin + k) (omega arith)) refl

    found : window_at image origin (origin + k) ≡ window (drop k image)
    found = let e : origin + k - origin ≡ k = omega arith in ap (λ (n : ℕ). window (drop n image)) e

    passes : passed_of mode (window (drop k image)) ≡ length (take (passed_of mode (window (drop k image))) (drop k image))
    passes =
        let s = drop k image in
        let p = passed_of mode (window s) in
        omega (arith, passed_within mode s (omega (arith, length-drop k image)), length-take p s)

  -- where the image's size is right, a row of the listing is what is answered at its address: its line, and as many bytes as it has
  pub row_answers : (origin : ℕ) (image out : List ℕ) (r : Row) → wrong_size image origin ≡ false → Answered mode origin image r → row_outcome mode image origin r.address out ≡ given r.line (length r.bytes) out
  row_answers origin image out r size x =
      let k = x.place in
      let s = drop k image in
      subst (λ (q : Row). row_outcome mode image origin q.address out ≡ given q.line (length q.bytes) out) (sym x.answer)
      (rw (size, within origin image k x.inside, found origin image k x.inside)
      (ap (λ (p : ℕ). given (row_at mode (origin + k) s).line p out) (passes origin image k x.inside)))
