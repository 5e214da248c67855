-- One byte is written, or none where there is no room.
use Rattle.std.proofs.Common.{arith, refl}
use Rattle.writer.proofs.Laws.{one, full}
use Rattle.writer.proofs.Writer.put.Goals as goal

pub returns-then-self : goal.returns-then-self
returns-then-self c = record { same = refl; wrote = one c.args.self.now.buf.now c.args.self.now.at _ (omega arith) }

pub returns-else-self : goal.returns-else-self
returns-else-self c = record { same = refl; wrote = full c.args.self.now.buf.now _ _ (omega arith) }
