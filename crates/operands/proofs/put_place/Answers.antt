-- Nothing where the place is empty.
use Rattle.writer.proofs.Laws.{◌⟫◌, put_none}
use Rattle.operands.proofs.put_place.Goals as goal

pub returns-in-Of : goal.returns-in-Of
returns-in-Of c = rw c.in-Of.is (c.put_bytes.ensures ⟫ c.put_operand.ensures)

pub returns-in_default : goal.returns-in_default
returns-in_default c = rw c.in_default.is (put_none _)
