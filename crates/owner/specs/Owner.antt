-- What an owner has that lends its record to two edits. Definitions only.
use Rattle.std.specs.Prelude.{Result, is_ok}
use Rattle.opcode.specs.declared.record.OpCode.{OpCode}
use Rattle.opcode.specs.Timing.{rec_of}
use Rattle.owner.specs.declared.Twice.{Twice}

-- the second edit begins with the record that the first has left
abbrev pub twice : Result OpCode OpCode → (OpCode → Result OpCode OpCode) → Twice
twice e edit = record { first = is_ok e; second = is_ok (edit (rec_of e)); rec = rec_of (edit (rec_of e)) }
