-- The words in which the theorems about a listing are stated. Definitions only.
use Rattle.std.specs.Prelude.{ℕ, zero, suc, ◌+◌, ◌<◌, ◌≡◌, List, [], ◌∷◌, length, drop}
use Rattle.image.specs.Places.{window}
use Rattle.table.specs.declared.Mode.{Mode}
use Rattle.listing.specs.Rows.{passed_of, Row, row_at}

-- p holds of every row
abbrev pub Every : (Row → Type 0) → List Row → Type 0
Every p [] = Unit {0}
Every p (r ∷ rs) = p r × Every p rs

-- the row is the decoder's answer at a place k of the image, whose address is origin + k
pub record Answered (mode : Mode) (origin : ℕ) (image : List ℕ) (r : Row) : Type 0 where
  pub place : ℕ
  pub inside : place < length image
  pub answer : r ≡ row_at mode (origin + place) (drop place image)

-- what is left of s when n rows have passed their bytes
abbrev pub left_after : Mode → ℕ → List ℕ → List ℕ
left_after mode zero s = s
left_after mode (suc n) s = left_after mode n (drop (passed_of mode (window s)) s)
