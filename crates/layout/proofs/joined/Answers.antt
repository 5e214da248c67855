-- Each part has as many elements as are put one by one.
use borrow.Author.Rules.{rules}
use Rattle.layout.proofs.Laws.{joined_are}
use Rattle.layout.proofs.joined.Goals as goal

pub returns : goal.returns
returns c =
    let s = c.args in
    joined_are s.length s.ins s.mcycles s.least s.most s.op1 s.op2 s.op3 s.bytes s.tstates (search rules) (search rules) (search rules) (search rules) (search rules)
