-- After each turn the bytes so far are written.
use Rattle.std.proofs.Common.{take}
use Rattle.writer.specs.Puts.{Puts}
use Rattle.writer.proofs.Writer.put_bytes.Given as goal

abbrev pub invariant-loop-b : goal.invariant-loop-b
invariant-loop-b l = Puts l.initial.self (take l.b-index l.s) l.self
