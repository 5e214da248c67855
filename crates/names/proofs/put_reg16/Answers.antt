-- By the rule of its table.
use Rattle.wording.specs.Names.{reg16_names}
use Rattle.writer.proofs.Laws.{put_told}
use Rattle.names.proofs.Rules.{reg16_right}
use Rattle.names.proofs.put_reg16.Goals as goal

pub put_spelling-requires : goal.put_spelling-requires
unfolding reg16_names
put_spelling-requires c = (reg16_right c.args.x _ c.reg16_number.ensures).0

pub returns : goal.returns
unfolding reg16_names
returns c = put_told (reg16_right c.args.x _ c.reg16_number.ensures).1 c.put_spelling.ensures
