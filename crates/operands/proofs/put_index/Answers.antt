-- An i8 as an i16 is the same number.
use Rattle.writer.proofs.Laws.{◌⟫◌}
use Rattle.operands.proofs.Widen.{widened}
use Rattle.operands.proofs.put_index.Goals as goal

pub returns : goal.returns
returns c = c.put_bytes.ensures ⟫ (rw (c.from.ensures, widened c.ranges.d) at c.put_signed.ensures) ⟫ c.put.ensures
