-- What writes the bytes that are left has written all of them.
use Rattle.std.proofs.Common.{take}
use Rattle.wording.specs.Text.{each, byte_text}
use Rattle.writer.specs.declared.Writer.{Writer}
use Rattle.writer.specs.Puts.{Puts}
use Rattle.record_text.proofs.put_bytes_part.Given as goal

abbrev pub invariant-loop-b : goal.invariant-loop-b
invariant-loop-b l = (w : Writer) → Puts l.out (each byte_text (take l.b-iterator.n l.b-iterator.iter.rest.now)) w → Puts l.initial.out (each byte_text (take l.fn.rec.length.0 l.fn.rec.«data»)) w
