-- Its three parts, one behind the other.
use Rattle.writer.proofs.Laws.{◌⟫◌}
use Rattle.record_text.proofs.put_instruction_part.Goals as goal

pub returns : goal.returns
returns c = c.put_name.ensures ⟫ c.put.ensures ⟫ c.put_operands.ensures
