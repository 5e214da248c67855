-- The pages and the prefix step, as the decoder goes through them. No promise rests on this file: they are proved equal to the table. Definitions only.
use Rattle.std.specs.Prelude.{ℕ, ◌-◌, ◌/◌, ◌%◌, cond, ◌||◌, List, eqb, ltb, length, drop, get_or, Result, Ok, Err}
use Rattle.opcode.specs.declared.counts.Bytes.{Bytes}
use Rattle.table.specs.Row.{gap}
use Rattle.table.specs.Plain.{plain}
use Rattle.table.specs.Cb.{cb}
use Rattle.table.specs.Ed.{ed}
use Rattle.table.specs.Decode.{is_prefix}
use Rattle.table.specs.Consequences.{first, second}
use Rattle.packed.specs.Packed.{packed}
use Rattle.prefix.specs.Changed.{changed_of, bits_of, load_of}

-- NOP, length 1, [4]
abbrev pub nop : ℕ
nop = 0x4000001100000023

-- where the bytes behind the code begin: CB, ED, DD and FD have a second byte of code
abbrev pub behind_code : ℕ → ℕ
behind_code b = cond (is_prefix b || (eqb b 0xCB || eqb b 0xED)) 2 1

-- no row: so many bytes are missing
abbrev pub missing : ℕ → Result ℕ Bytes
missing k = Err (record { 0 = k })

-- the row r, if all its bytes are among n; else how many are missing
unfoldable pub whole_of : ℕ → ℕ → Result ℕ Bytes
whole_of r n = cond (ltb n (r / 0x100000000 % 16)) (missing (r / 0x100000000 % 16 - n)) (Ok r)

-- a row of the ED page; an undefined code in four bytes is a NOP
unfoldable pub whole_ed : ℕ → ℕ → Result ℕ Bytes
whole_ed r n = cond (eqb r 0) (cond (eqb n 4) (Ok nop) (missing (4 - n))) (whole_of r n)

-- the row of the bytes s, p being what the prefix step makes of them
unfoldable pub chain_of : ℕ → List ℕ → Result ℕ Bytes
chain_of p s =
    cond (is_prefix (first s)) (cond (ltb (length s) 4) (missing (4 - length s)) (Ok p))
    (cond (eqb (first s) 0xED) (cond (eqb (length s) 1) (missing 1) (whole_ed (packed (get_or ed (second s) gap)) (length s)))
    (cond (eqb (first s) 0xCB) (whole_of (packed (get_or cb (second s) gap)) (length s))
    (whole_of (packed (get_or plain (first s) gap)) (length s))))

-- three bytes or fewer: the prefix step is not reached
abbrev pub rest_of : List ℕ → Result ℕ Bytes
rest_of s = chain_of 0 s

-- what the prefix p makes of what is behind it; where no row is, and a number below 16 is none, a NOP
abbrev pub changed_by : ℕ → Result ℕ Bytes → ℕ
changed_by p (Ok r) = cond (ltb r 16) nop (changed_of p r)
changed_by p (Err k) = nop

-- the prefix step, r being what the bytes behind the prefix are
unfoldable pub prefix_of : Result ℕ Bytes → List ℕ → ℕ
prefix_of r s =
    cond (eqb (second s) 0xCB) (bits_of (first s) (get_or s 3 0) (packed (get_or cb (get_or s 3 0) gap)))
    (cond (eqb (second s) 0xEB) nop
    (cond (eqb (second s) 0x36) (load_of (first s))
    (changed_by (first s) r)))

-- the whole decoder: a prefix hands the rest to the pages
abbrev pub decoder_of : List ℕ → Result ℕ Bytes
decoder_of s = chain_of (prefix_of (rest_of (drop 1 s)) s) s
