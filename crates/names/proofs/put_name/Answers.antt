-- By the rule of its table.
use Rattle.wording.specs.Names.{names}
use Rattle.writer.proofs.Laws.{put_told}
use Rattle.names.proofs.Rules.{instruction_right}
use Rattle.names.proofs.put_name.Goals as goal

pub put_spelling-requires : goal.put_spelling-requires
unfolding names
put_spelling-requires c = (instruction_right c.args.ins _ c.instruction_number.ensures).0

pub returns : goal.returns
unfolding names
returns c = put_told (instruction_right c.args.ins _ c.instruction_number.ensures).1 c.put_spelling.ensures
