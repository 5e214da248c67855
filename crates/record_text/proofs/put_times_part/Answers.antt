-- A space and the T-states.
use Rattle.writer.proofs.Laws.{◌⟫◌}
use Rattle.record_text.proofs.put_times_part.Goals as goal

pub returns : goal.returns
returns c = c.put.ensures ⟫ c.put_times.ensures
