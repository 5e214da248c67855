-- From bytes to answer and record. Definitions only.
use Rattle.std.specs.Prelude.{ℕ, ◌-◌, Bool, cond, ◌&&◌, ◌||◌, List, [], ◌∷◌, eqb, ltb, length, drop, get_or}
use Rattle.opcode.specs.declared.instruction.Instruction.{Instruction}
use Rattle.opcode.specs.declared.record.OpCode.{OpCode}
use Rattle.opcode.specs.Record.{six, sum, empty_of}
use Rattle.opcode.specs.Times.{least_of, most_of}
use Rattle.table.specs.declared.Answer.{Answer}
use Rattle.table.specs.declared.Decoded.{Decoded}
use Rattle.table.specs.Row.{ix, iy, Kind, none, Cycles, Row, row, gap, t1, read, states}
use Rattle.table.specs.Departures.{one_figure, needed, needed_behind}
use Rattle.table.specs.Plain.{plain}
use Rattle.table.specs.Cb.{cb}
use Rattle.table.specs.Ed.{ed}
use Rattle.table.specs.Prefix.{behind_row}

-- document 01's number of each answer
abbrev pub number_of : Answer → ℕ
number_of Answer.Done = 0
number_of Answer.Nothing = 1
number_of (Answer.Short k) = 2
number_of Answer.Long = 3

-- the fewest missing bytes that an answer carries: zero but for Short
abbrev pub missing_of : Answer → ℕ
missing_of Answer.Done = 0
missing_of Answer.Nothing = 0
missing_of (Answer.Short k) = k.0
missing_of Answer.Long = 0

-- the first byte is DD or FD
abbrev pub is_prefix : ℕ → Bool
is_prefix b = eqb b 0xDD || eqb b 0xFD

-- the row with no DD or FD in front: behind CB and ED the second byte is the code
unfoldable pub page_row : ℕ → ℕ → Row
page_row b0 b1 =
    cond (eqb b0 0xCB) (get_or cb b1 gap)
    (cond (eqb b0 0xED) (get_or ed b1 gap)
    (get_or plain b0 gap))

-- the row of some bytes, and where no row takes them a gap; a byte that is not there reads as zero, and the row then needs more bytes than there are
unfoldable pub row_of : List ℕ → Row
row_of s =
    cond (eqb (get_or s 0 0) 0xDD) (behind_row ix (get_or s 1 0) (get_or s 2 0) (get_or s 3 0))
    (cond (eqb (get_or s 0 0) 0xFD) (behind_row iy (get_or s 1 0) (get_or s 2 0) (get_or s 3 0))
    (page_row (get_or s 0 0) (get_or s 1 0)))

-- the bytes behind the code: CB, ED, DD and FD have a second byte of code, and no row of DD ED reads any
abbrev pub operand_bytes : List ℕ → List ℕ
operand_bytes s = cond (is_prefix (get_or s 0 0) || (eqb (get_or s 0 0) 0xCB || eqb (get_or s 0 0) 0xED)) (drop 2 s) (drop 1 s)

-- a record from instruction, kinds, length, cycles, the bytes behind the code and the data; six T-state places, the first m filled and the rest zero; the least and the most that the row takes
abbrev pub made : Instruction → Kind → Kind → Kind → ℕ → Cycles → List ℕ → List ℕ → OpCode
made i x y z n t s d =
    record {
      length = record { 0 = n };
      ins = i;
      op1 = read x s;
      op2 = read y s;
      op3 = read z s;
      «data» = d;
      tstates = six (states (one_figure t));
      mcycles = record { 0 = length (one_figure t) };
      least = least_of i (read x s) (sum (six (states (one_figure t))));
      most = most_of i (sum (six (states (one_figure t))));
    }

-- the record of a row over the bytes s behind its code and the data d; four bytes that no row takes: length 1, NOP, [4]
abbrev pub record_of : Row → List ℕ → List ℕ → OpCode
record_of gap s d = made Instruction.NOP none none none 1 (t1 4) s d
record_of (row i x y z n t) s d = made i x y z n t s d

-- the input padded with zeros to four
abbrev pub four : List ℕ → List ℕ
four s = get_or s 0 0 ∷ get_or s 1 0 ∷ get_or s 2 0 ∷ get_or s 3 0 ∷ []

-- ED with its code yet to come
abbrev pub ed_alone : List ℕ → Bool
ed_alone s = eqb (length s) 1 && eqb (get_or s 0 0) 0xED

-- how many bytes decide a row that begins with s, at least: ED alone may become one of two
abbrev pub needed_of : List ℕ → ℕ
needed_of s = needed_behind (is_prefix (get_or s 0 0)) (cond (ed_alone s) 2 (needed (row_of s)))

-- a refusal returns the empty record
abbrev pub refused : Answer → Decoded
refused a = record { answer = a; rec = empty_of }

-- k bytes are missing
abbrev pub short : ℕ → Decoded
short k = refused (Answer.Short (record { 0 = k }))

abbrev pub done : OpCode → Decoded
done r = record { answer = Answer.Done; rec = r }

-- how bytes are read: the row of some bytes, and how many decide a row that begins with them, at least
pub record Reading : Type 0 where
  pub row : List ℕ → Row
  pub needed : List ℕ → ℕ

abbrev pub decode_by : Reading → List ℕ → Decoded
decode_by r s =
    cond (eqb (length s) 0) (refused Answer.Nothing)
    (cond (ltb 4 (length s)) (refused Answer.Long)
    (cond (ltb (length s) (r.needed s)) (short (r.needed s - length s))
    (done (record_of (r.row s) (operand_bytes s) (four s)))))

-- what a host is told of some bytes, in document 01's numbers, and the record
pub record Outcome : Type 0 where
  pub number : ℕ
  pub missing : ℕ
  pub rec : OpCode

abbrev pub outcome : ℕ → ℕ → OpCode → Outcome
outcome n k r = record { number = n; missing = k; rec = r }

-- by what decoding gives
abbrev pub told_by : Decoded → Outcome
told_by d = outcome (number_of d.answer) (missing_of d.answer) d.rec

-- 1, 3 and 2 in this order, with the empty record; else 0
abbrev pub outcome_by : Reading → List ℕ → Outcome
outcome_by r s =
    cond (eqb (length s) 0) (outcome 1 0 empty_of)
    (cond (ltb 4 (length s)) (outcome 3 0 empty_of)
    (cond (ltb (length s) (r.needed s)) (outcome 2 (r.needed s - length s) empty_of)
    (outcome 0 0 (record_of (r.row s) (operand_bytes s) (four s)))))

-- as the Rust reads them
abbrev pub rust : Reading
rust = record { row = row_of; needed = needed_of }

unfoldable pub decode_of : List ℕ → Decoded
decode_of s = decode_by rust s
