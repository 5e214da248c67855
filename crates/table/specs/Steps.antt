-- The prefix rule on records, as document 01 words it and the original does it: the bytes behind DD or FD are decoded first, and the record is then changed.
-- The table's own rule changes the row instead; proofs/Recursive.antt shows that the two agree, so that nobody has to believe this file. Definitions only.
use Rattle.std.specs.Prelude.{ℕ, zero, suc, ◌+◌, ◌-◌, Bool, true, false, cond, ◌||◌, List, [], ◌∷◌, eqb, ltb, length, drop, get_or}
use Rattle.opcode.specs.declared.registers.Reg8.{Reg8}
use Rattle.opcode.specs.declared.registers.Reg16.{Reg16}
use Rattle.opcode.specs.declared.operand.Operand.{Operand}
use Rattle.opcode.specs.declared.operand.Place.{Place}
use Rattle.opcode.specs.declared.instruction.Instruction.{Instruction}
use Rattle.opcode.specs.declared.record.OpCode.{OpCode}
use Rattle.opcode.specs.declared.timing.Timing.{Timing}
use Rattle.opcode.specs.Record.{six, empty_of}
use Rattle.opcode.specs.Times.{retimed}
use Rattle.opcode.specs.Timing.{insert_of, push_of, remove_of, rec_of}
use Rattle.table.specs.declared.Answer.{Answer}
use Rattle.table.specs.declared.Decoded.{Decoded}
use Rattle.table.specs.Row.{Index, ix, iy, gap, index_of, states}
use Rattle.table.specs.Families.{high, low}
use Rattle.table.specs.Cb.{cb}
use Rattle.table.specs.Prefix.{pair, bit_row}
use Rattle.table.specs.Decode.{number_of, is_prefix, page_row, operand_bytes, record_of, needed_of, refused, short, done}
use Rattle.table.specs.Consequences.{first, second, with_data}

abbrev pub is_hl : Reg16 → Bool
is_hl Reg16.AF = false
is_hl Reg16.BC = false
is_hl Reg16.DE = false
is_hl Reg16.HL = true
is_hl Reg16.SP = false
is_hl Reg16.AFp = false
is_hl Reg16.IX = false
is_hl Reg16.IY = false

-- (HL)
abbrev pub has_addr : Place → Bool
has_addr Place.Empty = false
has_addr (Place.Of (Operand.Imm8 n)) = false
has_addr (Place.Of (Operand.Imm16 n)) = false
has_addr (Place.Of (Operand.RelAddr e)) = false
has_addr (Place.Of (Operand.Address n)) = false
has_addr (Place.Of (Operand.IOAddress n)) = false
has_addr (Place.Of (Operand.RegI i)) = false
has_addr (Place.Of (Operand.Reg8 r)) = false
has_addr (Place.Of (Operand.Reg16 q)) = false
has_addr (Place.Of (Operand.RegAddr q)) = is_hl q
has_addr (Place.Of (Operand.RegIOAddr r)) = false
has_addr (Place.Of (Operand.FlagCondition c)) = false
has_addr (Place.Of Operand.IgnoreIO) = false

-- what a register becomes, and whether it is H or L
abbrev pub half : Index → Reg8 → Reg8
half i Reg8.A = Reg8.A
half i Reg8.B = Reg8.B
half i Reg8.C = Reg8.C
half i Reg8.D = Reg8.D
half i Reg8.E = Reg8.E
half i Reg8.H = high i
half i Reg8.L = low i
half i Reg8.IXh = Reg8.IXh
half i Reg8.IXl = Reg8.IXl
half i Reg8.IYh = Reg8.IYh
half i Reg8.IYl = Reg8.IYl
half i Reg8.I = Reg8.I
half i Reg8.R = Reg8.R

abbrev pub is_half : Reg8 → Bool
is_half Reg8.A = false
is_half Reg8.B = false
is_half Reg8.C = false
is_half Reg8.D = false
is_half Reg8.E = false
is_half Reg8.H = true
is_half Reg8.L = true
is_half Reg8.IXh = false
is_half Reg8.IXl = false
is_half Reg8.IYh = false
is_half Reg8.IYl = false
is_half Reg8.I = false
is_half Reg8.R = false

-- HL, H or L
abbrev pub has_hl : Place → Bool
has_hl Place.Empty = false
has_hl (Place.Of (Operand.Imm8 n)) = false
has_hl (Place.Of (Operand.Imm16 n)) = false
has_hl (Place.Of (Operand.RelAddr e)) = false
has_hl (Place.Of (Operand.Address n)) = false
has_hl (Place.Of (Operand.IOAddress n)) = false
has_hl (Place.Of (Operand.RegI i)) = false
has_hl (Place.Of (Operand.Reg8 r)) = is_half r
has_hl (Place.Of (Operand.Reg16 q)) = is_hl q
has_hl (Place.Of (Operand.RegAddr q)) = false
has_hl (Place.Of (Operand.RegIOAddr r)) = false
has_hl (Place.Of (Operand.FlagCondition c)) = false
has_hl (Place.Of Operand.IgnoreIO) = false

abbrev pub replace_hl : Index → Place → Place
replace_hl i Place.Empty = Place.Empty
replace_hl i (Place.Of (Operand.Imm8 n)) = Place.Of (Operand.Imm8 n)
replace_hl i (Place.Of (Operand.Imm16 n)) = Place.Of (Operand.Imm16 n)
replace_hl i (Place.Of (Operand.RelAddr e)) = Place.Of (Operand.RelAddr e)
replace_hl i (Place.Of (Operand.Address n)) = Place.Of (Operand.Address n)
replace_hl i (Place.Of (Operand.IOAddress n)) = Place.Of (Operand.IOAddress n)
replace_hl i (Place.Of (Operand.RegI j)) = Place.Of (Operand.RegI j)
replace_hl i (Place.Of (Operand.Reg8 r)) = Place.Of (Operand.Reg8 (half i r))
replace_hl i (Place.Of (Operand.Reg16 q)) = Place.Of (Operand.Reg16 (cond (is_hl q) (pair i) q))
replace_hl i (Place.Of (Operand.RegAddr q)) = Place.Of (Operand.RegAddr q)
replace_hl i (Place.Of (Operand.RegIOAddr r)) = Place.Of (Operand.RegIOAddr r)
replace_hl i (Place.Of (Operand.FlagCondition c)) = Place.Of (Operand.FlagCondition c)
replace_hl i (Place.Of Operand.IgnoreIO) = Place.Of Operand.IgnoreIO

abbrev pub is_imm8 : Place → Bool
is_imm8 Place.Empty = false
is_imm8 (Place.Of (Operand.Imm8 n)) = true
is_imm8 (Place.Of (Operand.Imm16 n)) = false
is_imm8 (Place.Of (Operand.RelAddr e)) = false
is_imm8 (Place.Of (Operand.Address n)) = false
is_imm8 (Place.Of (Operand.IOAddress n)) = false
is_imm8 (Place.Of (Operand.RegI i)) = false
is_imm8 (Place.Of (Operand.Reg8 r)) = false
is_imm8 (Place.Of (Operand.Reg16 q)) = false
is_imm8 (Place.Of (Operand.RegAddr q)) = false
is_imm8 (Place.Of (Operand.RegIOAddr r)) = false
is_imm8 (Place.Of (Operand.FlagCondition c)) = false
is_imm8 (Place.Of Operand.IgnoreIO) = false

abbrev pub replace_addr : Index → ℕ → Place → Place
replace_addr i d p = cond (has_addr p) (Place.Of (index_of i d)) p

-- a record whose row times are still to be filled
abbrev pub untimed : OpCode → OpCode
untimed o =
    record {
      length = o.length;
      ins = o.ins;
      op1 = o.op1;
      op2 = o.op2;
      op3 = o.op3;
      «data» = o.«data»;
      tstates = o.tstates;
      mcycles = o.mcycles;
      least = record { 0 = 0 };
      most = record { 0 = 0 };
    }

abbrev pub timing : List ℕ → Timing
timing ts = record { tstates = six (states ts); mcycles = record { 0 = length ts } }

-- the record with other length, instruction and operands
abbrev pub changed : OpCode → ℕ → Instruction → Place → Place → OpCode
changed o n i x y =
    record {
      length = record { 0 = n };
      ins = i;
      op1 = x;
      op2 = y;
      op3 = o.op3;
      «data» = o.«data»;
      tstates = o.tstates;
      mcycles = o.mcycles;
      least = o.least;
      most = o.most;
    }

-- LD (IX+d),n takes n from the fourth byte and loses its sixth cycle
abbrev pub with_addr : Index → ℕ → ℕ → OpCode → OpCode
with_addr i d n o =
    cond (is_imm8 o.op2)
    (rec_of (remove_of (rec_of (insert_of (changed o (o.length.0 + 2) o.ins (replace_addr i d o.op1) (Place.Of (Operand.Imm8 n))) 1 (timing (4 ∷ 3 ∷ 5 ∷ [])))) 5))
    (rec_of (insert_of (changed o (o.length.0 + 2) o.ins (replace_addr i d o.op1) (replace_addr i d o.op2)) 1 (timing (4 ∷ 3 ∷ 5 ∷ []))))

abbrev pub with_hl : Index → OpCode → OpCode
with_hl i o = rec_of (insert_of (changed o (o.length.0 + 1) o.ins (replace_hl i o.op1) (replace_hl i o.op2)) 1 (timing (4 ∷ [])))

-- length 1, NOP; T-states [4] if none are set
abbrev pub as_nop : OpCode → OpCode
as_nop o = cond (eqb o.mcycles.0 0) (rec_of (push_of (changed o 1 Instruction.NOP o.op1 o.op2) (record { 0 = 4 }))) (changed o 1 Instruction.NOP o.op1 o.op2)

-- the record of the bytes behind the prefix, changed: d and n are the third and the fourth byte
abbrev pub prefixed : Index → ℕ → ℕ → OpCode → OpCode
prefixed i d n o =
    cond (has_addr o.op1 || has_addr o.op2) (with_addr i d n o)
    (cond (has_hl o.op1 || has_hl o.op2) (with_hl i o)
    (as_nop o))

-- the bytes behind the prefix decoded to r, which is changed where it is Done; EB is not looked into
abbrev pub behind : Decoded → Index → ℕ → ℕ → ℕ → List ℕ → OpCode
behind r i b1 b2 b3 d =
    cond (eqb b1 0xCB) (untimed (record_of (bit_row i b3 (get_or cb b3 gap)) (b2 ∷ b3 ∷ []) d))
    (cond (eqb b1 0xEB) (as_nop (with_data empty_of d))
    (cond (eqb (number_of r.answer) 0) (prefixed i b2 b3 r.rec) (as_nop (with_data empty_of d))))

abbrev pub named : ℕ → Index
named b = cond (eqb b 0xDD) ix iy

-- one step of decoding the bytes s with the data d, r being what the bytes behind the first decode to
unfoldable pub step : Decoded → List ℕ → List ℕ → Decoded
step r s d =
    cond (eqb (length s) 0) (refused Answer.Nothing)
    (cond (is_prefix (first s))
    (cond (ltb (length s) 4) (short (needed_of s - length s)) (done (behind r (named (first s)) (second s) (get_or s 2 0) (get_or s 3 0) d)))
    (cond (ltb (length s) (needed_of s)) (short (needed_of s - length s)) (done (untimed (record_of (page_row (first s) (second s)) (operand_bytes s) d)))))

-- decoding by steps, each handing the rest to the next; k bounds how many
unfoldable pub reading : ℕ → List ℕ → List ℕ → Decoded
reading zero s d = step (refused Answer.Nothing) s d
reading (suc k) s d = step (reading k (drop 1 s) d) s d

-- the row times are filled at the end
abbrev pub filled : Decoded → Decoded
filled r = cond (eqb (number_of r.answer) 0) (done (retimed r.rec)) r
