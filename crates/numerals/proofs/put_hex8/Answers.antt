-- Two digits.
use Rattle.wording.specs.Digits.{hex8}
use Rattle.writer.proofs.Laws.{◌⟫◌}
use Rattle.numerals.proofs.put_hex8.Goals as goal

pub returns : goal.returns
unfolding hex8
returns c = rw (← c.digit.ensures, ← c.digit-2.ensures) (c.put.ensures ⟫ c.put-2.ensures)
