-- Address, text and LF.
use Rattle.line.specs.Line.{decoded_line}
use Rattle.writer.proofs.Laws.{◌⟫◌}
use Rattle.line.proofs.put_decoded_line.Goals as goal

pub returns : goal.returns
unfolding decoded_line
returns c = c.put_address.ensures ⟫ c.put_text.ensures ⟫ c.put.ensures
