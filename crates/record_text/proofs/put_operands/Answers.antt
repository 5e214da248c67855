-- Three places, one behind the other.
use Rattle.writer.proofs.Laws.{◌⟫◌}
use Rattle.record_text.proofs.put_operands.Goals as goal

pub returns : goal.returns
returns c = c.put_place.ensures ⟫ c.put_place-2.ensures ⟫ c.put_place-3.ensures
