-- Four digits and a space.
use Rattle.writer.proofs.Laws.{◌⟫◌}
use Rattle.line.proofs.put_address.Goals as goal

pub returns : goal.returns
returns c = c.put_hex16.ensures ⟫ c.put.ensures
