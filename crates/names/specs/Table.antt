-- A fixed table of spellings, five bytes a row. Definitions only.
use Rattle.std.specs.Prelude.{ℕ, ◌+◌, ◌-◌, ◌*◌, ◌≤◌, List, [], ◌∷◌, ◌++◌, length, take, drop, get_or}
use Prim.Native.String.{String}
use Rattle.wording.specs.Ascii.{ascii}
use Rattle.wording.specs.Digits.{digit}
use Rattle.wording.specs.Text.{each}

-- four letters, with blanks behind a shorter spelling, and the count of those that are its own
abbrev pub row_of : String → List ℕ
row_of s = take 4 (ascii s ++ ascii "    ") ++ (digit (length (ascii s)) ∷ [])

abbrev pub table_of : List String → List ℕ
table_of names = each row_of names

-- row k is whole, and counts up to four letters
pub record Row (table : List ℕ) (k : ℕ) : Type 0 where
  pub inside : k * 5 + 5 ≤ length table
  pub least : 48 ≤ get_or table (k * 5 + 4) 0
  pub most : get_or table (k * 5 + 4) 0 ≤ 52

-- what row k spells; 48 is the digit 0
unfoldable pub spelling : List ℕ → ℕ → List ℕ
spelling table k = take (get_or table (k * 5 + 4) 0 - 48) (drop (k * 5) table)
