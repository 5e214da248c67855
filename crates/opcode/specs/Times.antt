-- The least and the most that a row takes, by its instruction, its first operand and the sum of its T-states. Definitions only.
use Rattle.std.specs.Prelude.{ℕ, ◌+◌, Bool, true, false, cond}
use Rattle.opcode.specs.declared.instruction.Instruction.{Instruction}
use Rattle.opcode.specs.declared.instruction.Instruction.TheVariants.{JR, DJNZ, CALL, RET, LDIR, LDDR, CPIR, CPDR, INIR, INDR, OTIR, OTDR}
use Rattle.opcode.specs.declared.operand.Operand.{Operand}
use Rattle.opcode.specs.declared.operand.Place.{Place}
use Rattle.opcode.specs.declared.counts.Pace.{Pace}
use Rattle.opcode.specs.declared.counts.RowTime.{RowTime}
use Rattle.opcode.specs.declared.record.OpCode.{OpCode}
use Rattle.opcode.specs.declared.times.Span.{Span}
use Rattle.opcode.specs.Record.{sum}

-- the eight that repeat themselves
abbrev pub repeats : Instruction → Bool
repeats LDIR = true
repeats LDDR = true
repeats CPIR = true
repeats CPDR = true
repeats INIR = true
repeats INDR = true
repeats OTIR = true
repeats OTDR = true
repeats _ = false

-- JR cc, DJNZ, CALL cc and RET cc have a quick way through, the eight repeat themselves
abbrev pub pace_of : Instruction → Pace
pace_of JR = Pace.ShorterIf 7
pace_of DJNZ = Pace.Shorter 8
pace_of CALL = Pace.ShorterIf 10
pace_of RET = Pace.ShorterIf 5
pace_of LDIR = Pace.Repeats
pace_of LDDR = Pace.Repeats
pace_of CPIR = Pace.Repeats
pace_of CPDR = Pace.Repeats
pace_of INIR = Pace.Repeats
pace_of INDR = Pace.Repeats
pace_of OTIR = Pace.Repeats
pace_of OTDR = Pace.Repeats
pace_of _ = Pace.Steady

abbrev pub is_condition : Operand → Bool
is_condition (Operand.FlagCondition c) = true
is_condition _ = false

-- the first operand is a condition
abbrev pub has_condition : Place → Bool
has_condition Place.Empty = false
has_condition (Place.Of o) = is_condition o

-- least: JR cc 7, DJNZ 8, CALL cc 10, RET cc 5, the repeating eight 16, every other row its sum n
abbrev pub least_by : Pace → Bool → ℕ → ℕ
least_by Pace.Steady conditional n = n
least_by (Pace.Shorter k) conditional n = k
least_by (Pace.ShorterIf k) conditional n = cond conditional k n
least_by Pace.Repeats conditional n = 16

-- most: the sum n, and of the repeating eight five more
abbrev pub most_by : Pace → ℕ → ℕ
most_by Pace.Repeats n = n + 5
most_by _ n = n

abbrev pub span_by : Instruction → Bool → ℕ → Span
span_by i conditional n = record { least = record { 0 = least_by (pace_of i) conditional n }; most = record { 0 = most_by (pace_of i) n } }

abbrev pub least_of : Instruction → Place → ℕ → RowTime
least_of i x n = record { 0 = least_by (pace_of i) (has_condition x) n }

abbrev pub most_of : Instruction → ℕ → RowTime
most_of i n = record { 0 = most_by (pace_of i) n }

abbrev pub span_of : Instruction → Place → ℕ → Span
span_of i x n = record { least = least_of i x n; most = most_of i n }

-- the row time: the most, by the sum of the six places, also where a place behind the filled ones is not zero
abbrev pub time_of : OpCode → RowTime
time_of r = most_of r.ins (sum r.tstates)

-- the record with the row times that its instruction, its first operand and its six places give
abbrev pub retimed : OpCode → OpCode
retimed r =
    record {
      length = r.length;
      ins = r.ins;
      op1 = r.op1;
      op2 = r.op2;
      op3 = r.op3;
      «data» = r.«data»;
      tstates = r.tstates;
      mcycles = r.mcycles;
      least = least_of r.ins r.op1 (sum r.tstates);
      most = time_of r;
    }
