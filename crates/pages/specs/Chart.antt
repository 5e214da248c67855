-- A page as the opcode chart has it: sixteen lines of sixteen rows, the line by a code's high digit, the place in it by the low one. Definitions only.
use Rattle.std.specs.Prelude.{ℕ, ◌+◌, ◌*◌, List, get_or}
use Rattle.table.specs.Row.{Row, gap}
use Rattle.table.specs.Consequences.{values}
use Rattle.packed.specs.Packed.{packed}

-- the sixteen rows of a page whose codes have the high digit i, as numbers
abbrev pub sixteen : List Row → ℕ → List ℕ
sixteen page i = values (λ (k : ℕ). packed (get_or page (16 * i + k) gap)) 0 16

abbrev pub chart : List Row → List (List ℕ)
chart page = values (sixteen page) 0 16
