use Rattle.writer.proofs.Laws.{◌⟫◌}
use Rattle.operands.proofs.put_parenthesized.Goals as goal

pub returns : goal.returns
returns g c t writes = c.put.ensures ⟫ writes _ _ c.inside.ensures ⟫ c.put-2.ensures
