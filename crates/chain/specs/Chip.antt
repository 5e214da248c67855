-- The chip's own way through the same pages, and the way of a mode. No promise rests on this file: it is proved equal to the table. Definitions only.
use Rattle.std.specs.Prelude.{ℕ, cond, List, eqb, ltb, length, get_or, Result, Ok}
use Rattle.opcode.specs.declared.counts.Bytes.{Bytes}
use Rattle.table.specs.declared.Mode.{Mode}
use Rattle.table.specs.Row.{gap}
use Rattle.table.specs.Plain.{plain}
use Rattle.table.specs.Cb.{cb}
use Rattle.table.specs.Ed.{ed}
use Rattle.table.specs.Decode.{is_prefix}
use Rattle.table.specs.Consequences.{first, second}
use Rattle.packed.specs.Packed.{packed}
use Rattle.prefix.specs.Changed.{chip_changed_of, bits_of, load_of}
use Rattle.chain.specs.Chain.{nop, missing, whole_of, decoder_of}

-- an undefined ED code is NOP, length 2, [4,4]
abbrev pub defined_of : ℕ → ℕ
defined_of r = cond (eqb r 0) 0x4400002200000023 r

-- a prefix looks at the plain page alone
unfoldable pub chip_prefix_of : List ℕ → Result ℕ Bytes
chip_prefix_of s =
    cond (ltb (length s) 2) (missing 1)
    (cond (eqb (second s) 0xCB) (whole_of (bits_of (first s) (get_or s 3 0) (packed (get_or cb (get_or s 3 0) gap))) (length s))
    (cond (eqb (second s) 0xEB) (Ok nop)
    (cond (eqb (second s) 0x36) (whole_of (load_of (first s)) (length s))
    (whole_of (chip_changed_of (first s) (packed (get_or plain (second s) gap))) (length s)))))

-- all else is as in the Rust's mode
unfoldable pub chip_of : List ℕ → Result ℕ Bytes
chip_of s =
    cond (is_prefix (first s)) (chip_prefix_of s)
    (cond (eqb (first s) 0xED) (whole_of (defined_of (packed (get_or ed (second s) gap))) (length s))
    (decoder_of s))

-- the row of one to four bytes in a mode, or how many are missing
abbrev pub number_in : Mode → List ℕ → Result ℕ Bytes
number_in Mode.Rust s = decoder_of s
number_in Mode.Chip s = chip_of s
