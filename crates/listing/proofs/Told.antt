-- What is told of listing rows leaves one answer. Assumes nothing.
use mathlib.Core.Path.{◌≡◌, refl, sym, ap, ◌∙◌}
use mathlib.Core.Bool.{cond}
use mathlib.Core.List.{List}
use Prim.Native.Nat.{ℕ}
use Rattle.std.specs.Prelude.{Result, Ok, Err}
use lib.Dec.{eqb}
use Rattle.listing.specs.declared.Lines.{Lines}
use Rattle.listing.specs.declared.ListingRefusal.{ListingRefusal}
use Rattle.listing.specs.Answers.{Outcome, told_by}

abbrev answer_of : Outcome → Result Lines ListingRefusal
answer_of o =
    cond (eqb o.number 0) (Ok (record { count = o.count; passed = o.passed }))
    (cond (eqb o.number 5) (Err ListingRefusal.ImageSize)
    (cond (eqb o.number 1) (Err ListingRefusal.Nothing) (Err ListingRefusal.NoRoom)))

found : (l : Result Lines ListingRefusal) (out : List ℕ) → answer_of (told_by l out) ≡ l
found (Ok l) out = refl
found (Err ListingRefusal.ImageSize) out = refl
found (Err ListingRefusal.Nothing) out = refl
found (Err ListingRefusal.NoRoom) out = refl

pub one_answer : (k l : Result Lines ListingRefusal) (x y : List ℕ) → told_by k x ≡ told_by l y → k ≡ l
one_answer k l x y e = sym (found k x) ∙ ap answer_of e ∙ found l y
