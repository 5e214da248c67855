-- By the rule of its table.
use Rattle.wording.specs.Names.{condition_names}
use Rattle.writer.proofs.Laws.{put_told}
use Rattle.names.proofs.Rules.{condition_right}
use Rattle.names.proofs.put_condition.Goals as goal

pub put_spelling-requires : goal.put_spelling-requires
unfolding condition_names
put_spelling-requires c = (condition_right c.args.x _ c.condition_number.ensures).0

pub returns : goal.returns
unfolding condition_names
returns c = put_told (condition_right c.args.x _ c.condition_number.ensures).1 c.put_spelling.ensures
