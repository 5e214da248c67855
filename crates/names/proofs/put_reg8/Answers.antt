-- By the rule of its table.
use Rattle.wording.specs.Names.{reg8_names}
use Rattle.writer.proofs.Laws.{put_told}
use Rattle.names.proofs.Rules.{reg8_right}
use Rattle.names.proofs.put_reg8.Goals as goal

pub put_spelling-requires : goal.put_spelling-requires
unfolding reg8_names
put_spelling-requires c = (reg8_right c.args.x _ c.reg8_number.ensures).0

pub returns : goal.returns
unfolding reg8_names
returns c = put_told (reg8_right c.args.x _ c.reg8_number.ensures).1 c.put_spelling.ensures
