-- The chip's own reading, as document 02 has it. The pages, the rows at (IX+d) and those behind DD CB are the Rust's; what differs stands here. Definitions only.
use Rattle.std.specs.Prelude.{ℕ, ◌+◌, cond, ◌||◌, List, ◌∷◌, eqb, ltb, get_or}
use Rattle.opcode.specs.declared.instruction.Instruction.{Instruction}
use Rattle.table.specs.declared.Mode.{Mode}
use Rattle.table.specs.declared.Decoded.{Decoded}
use Rattle.table.specs.Row.{Index, ix, iy, always, is_at_hl, Row, row, gap, row0, t1, t2}
use Rattle.table.specs.Departures.{one_figure, needed}
use Rattle.table.specs.Plain.{plain}
use Rattle.table.specs.Cb.{cb}
use Rattle.table.specs.Ed.{ed}
use Rattle.table.specs.Prefix.{is_hl_kind, renamed, prefix_row, ld_indexed, bit_row}
use Rattle.table.specs.Decode.{is_prefix, page_row, Reading, Outcome, rust, decode_by, outcome_by}

-- a prefix that changes nothing: a NOP with length 1, [4] and no operands
abbrev pub idle : Row
idle = row0 Instruction.NOP 1 (t1 4)

-- an undefined ED code: a NOP with length 2 and [4,4]
abbrev pub defined : Row → Row
defined gap = row0 Instruction.NOP 2 (t2 4 4)
defined (row i x y z n t) = row i x y z n t

-- an (HL) becomes (IX+d) as in the Rust's mode; else each HL, H, L becomes IX, IXh, IXl, the prefix's [4] in front: INC, DEC and LD SP [4,6], PUSH [4,5,3,3]
abbrev pub chip_prefixed : Index → Row → Row
chip_prefixed i gap = idle
chip_prefixed i (row ins x y z n t) =
    cond (is_at_hl x || is_at_hl y) (prefix_row i (row ins x y z n t))
    (cond (is_hl_kind x || is_hl_kind y) (row ins (renamed i x) (renamed i y) z (n + 1) (always (4 ∷ one_figure t)))
    idle)

-- the row behind a prefix; ED, DD and FD have no row of their own on the plain page, and EB is not looked into
unfoldable pub chip_behind : Index → ℕ → ℕ → Row
chip_behind i b1 b3 =
    cond (eqb b1 0xCB) (bit_row i b3 (get_or cb b3 gap))
    (cond (eqb b1 0xEB) idle
    (cond (eqb b1 0x36) (ld_indexed i)
    (chip_prefixed i (get_or plain b1 gap))))

-- the row of some bytes; a byte that is not there reads as zero
unfoldable pub chip_row_of : List ℕ → Row
chip_row_of s =
    cond (eqb (get_or s 0 0) 0xDD) (chip_behind ix (get_or s 1 0) (get_or s 3 0))
    (cond (eqb (get_or s 0 0) 0xFD) (chip_behind iy (get_or s 1 0) (get_or s 3 0))
    (cond (eqb (get_or s 0 0) 0xED) (defined (get_or ed (get_or s 1 0) gap))
    (page_row (get_or s 0 0) (get_or s 1 0))))

abbrev pub larger : ℕ → ℕ → ℕ
larger m n = cond (ltb m n) n m

-- a row is decided as soon as its own bytes are there, and one behind a prefix at two or more
abbrev pub chip_needed_of : List ℕ → ℕ
chip_needed_of s = cond (is_prefix (get_or s 0 0)) (larger 2 (needed (chip_row_of s))) (needed (chip_row_of s))

abbrev pub chip : Reading
chip = record { row = chip_row_of; needed = chip_needed_of }

abbrev pub reading_of : Mode → Reading
reading_of Mode.Rust = rust
reading_of Mode.Chip = chip

-- the answer and record of some bytes, in a mode
unfoldable pub decode_in : Mode → List ℕ → Decoded
decode_in m s = decode_by (reading_of m) s

-- the same in document 01's numbers
abbrev pub outcome_in : Mode → List ℕ → Outcome
outcome_in m s = outcome_by (reading_of m) s
