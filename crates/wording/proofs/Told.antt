-- What is told of writing a text leaves one answer. Assumes nothing.
use mathlib.Core.Path.{◌≡◌, refl, sym, ap, ◌∙◌}
use mathlib.Core.Bool.{cond}
use mathlib.Core.List.{List}
use Prim.Native.Nat.{ℕ}
use Rattle.std.specs.Prelude.{Result, Ok, Err}
use lib.Dec.{eqb}
use Rattle.wording.specs.declared.TextRefusal.{TextRefusal}
use Rattle.wording.specs.Answers.{Outcome, told_by}

abbrev answer_of : Outcome → Result ℕ TextRefusal
answer_of o =
    cond (eqb o.number 0) (Ok o.count)
    (cond (eqb o.number 1) (Err TextRefusal.Nothing)
    (cond (eqb o.number 2) (Err (TextRefusal.Short (record { 0 = o.missing })))
    (cond (eqb o.number 3) (Err TextRefusal.Long)
    (cond (eqb o.number 4) (Err TextRefusal.NoRoom) (Err TextRefusal.BadChoice)))))

found : (w : Result ℕ TextRefusal) (out : List ℕ) → answer_of (told_by w out) ≡ w
found (Ok n) out = refl
found (Err TextRefusal.Nothing) out = refl
found (Err (TextRefusal.Short k)) out = refl
found (Err TextRefusal.Long) out = refl
found (Err TextRefusal.NoRoom) out = refl
found (Err TextRefusal.BadChoice) out = refl

pub one_answer : (v w : Result ℕ TextRefusal) (x y : List ℕ) → told_by v x ≡ told_by w y → v ≡ w
one_answer v w x y e = sym (found v x) ∙ ap answer_of e ∙ found w y
