-- What listing a row answers, in document 01's numbers, and the lent bytes as it leaves them. Definitions only.
use Rattle.std.specs.Prelude.{ℕ, Result, Ok, Err, cond, List, ◌++◌, leb, length, drop}
use Rattle.table.specs.declared.Mode.{Mode}
use Rattle.listing.specs.declared.Lines.{Lines}
use Rattle.listing.specs.declared.ListingRefusal.{ListingRefusal}
use Rattle.image.specs.Places.{wrong_size, outside, window_at}
use Rattle.listing.specs.Rows.{line_of, passed_of}

-- document 01's number of each answer
abbrev pub number_of : Result Lines ListingRefusal → ℕ
number_of (Ok l) = 0
number_of (Err ListingRefusal.ImageSize) = 5
number_of (Err ListingRefusal.Nothing) = 1
number_of (Err ListingRefusal.NoRoom) = 4

-- the count it returns: zero on a refusal
abbrev pub count_of : Result Lines ListingRefusal → ℕ
count_of (Ok l) = l.count
count_of (Err r) = 0

-- the bytes passed that it returns: zero on a refusal
abbrev pub passed_over : Result Lines ListingRefusal → ℕ
passed_over (Ok l) = l.passed
passed_over (Err r) = 0

-- what a host is told of listing rows, in document 01's numbers, and the lent bytes then
pub record Outcome : Type 0 where
  pub number : ℕ
  pub count : ℕ
  pub passed : ℕ
  pub bytes : List ℕ

abbrev pub outcome : ℕ → ℕ → ℕ → List ℕ → Outcome
outcome n c p out = record { number = n; count = c; passed = p; bytes = out }

-- by an answer that leaves these bytes
abbrev pub told_by : Result Lines ListingRefusal → List ℕ → Outcome
told_by l out = outcome (number_of l) (count_of l) (passed_over l) out

-- a line of a row that passes p bytes: where it is no longer than the lent bytes it stands at their front, those behind it as they were; else 4, NoRoom, and all as they were
abbrev pub given : List ℕ → ℕ → List ℕ → Outcome
given line p out = cond (leb (length line) (length out)) (outcome 0 (length line) p (line ++ drop (length line) out)) (outcome 4 0 0 out)

-- 5 and 1 before that; these leave the lent bytes as they were
abbrev pub row_outcome : Mode → List ℕ → ℕ → ℕ → List ℕ → Outcome
row_outcome mode image origin address out =
    cond (wrong_size image origin) (outcome 5 0 0 out)
    (cond (outside image origin address) (outcome 1 0 0 out)
    (given (line_of mode address (window_at image origin address)) (passed_of mode (window_at image origin address)) out))
