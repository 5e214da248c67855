-- The rows of an image. Definitions only.
use Rattle.std.specs.Prelude.{ℕ, zero, suc, ◌-◌, List, [], ◌∷◌, ◌++◌, take}
use Rattle.table.specs.declared.Mode.{Mode}
use Rattle.table.specs.Chip.{decode_in}
use Rattle.table.specs.Consequences.{first}
use Rattle.image.specs.Places.{window}
use Rattle.line.specs.Line.{line_by, passed_by}

-- the line at address a of a row that looks at the bytes w, in a mode
unfoldable pub line_of : Mode → ℕ → List ℕ → List ℕ
line_of mode a w = line_by (decode_in mode w).answer a (decode_in mode w).rec (first w)

-- the bytes that it passes
unfoldable pub passed_of : Mode → List ℕ → ℕ
passed_of mode w = passed_by (decode_in mode w).answer (decode_in mode w).rec

-- a row: its address, the bytes that it passes, its line
pub record Row : Type 0 where
  pub address : ℕ
  pub bytes : List ℕ
  pub line : List ℕ

-- the row at the front of s, whose first byte stands at address a
abbrev pub row_at : Mode → ℕ → List ℕ → Row
row_at mode a s = record { address = a; bytes = take (passed_of mode (window s)) s; line = line_of mode a (window s) }

-- the rows of s, of which the first n bytes belong to the row before
abbrev pub rows_behind : Mode → ℕ → ℕ → List ℕ → List Row
rows_behind mode n a [] = []
rows_behind mode (suc n) a (b ∷ s) = rows_behind mode n (suc a) s
rows_behind mode zero a (b ∷ s) = row_at mode a (b ∷ s) ∷ rows_behind mode (passed_of mode (window (b ∷ s)) - 1) (suc a) s

-- the whole listing: each row stands behind the bytes that the one before it passes
unfoldable pub listing : Mode → ℕ → List ℕ → List Row
listing mode origin image = rows_behind mode 0 origin image

-- what is printed: the lines joined
abbrev pub printed : List Row → List ℕ
printed [] = []
printed (r ∷ rs) = r.line ++ printed rs

-- the rows' bytes joined
abbrev pub joined : List Row → List ℕ
joined [] = []
joined (r ∷ rs) = r.bytes ++ joined rs
