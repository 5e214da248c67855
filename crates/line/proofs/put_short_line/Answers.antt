-- Address, the byte and its space, the question mark, the number, LF.
use Rattle.line.specs.Line.{short_line}
use Rattle.writer.proofs.Laws.{◌⟫◌}
use Rattle.line.proofs.put_short_line.Goals as goal

pub returns : goal.returns
unfolding short_line
returns c = c.put_address.ensures ⟫ (c.put_hex8.ensures ⟫ c.put.ensures) ⟫ c.put_bytes.ensures ⟫ (rw c.from.ensures at c.put_decimal.ensures) ⟫ c.put-2.ensures
