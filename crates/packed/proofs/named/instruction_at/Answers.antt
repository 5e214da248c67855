-- A number that is none of those before it has the last instruction.
use borrow.Author.Rules.{rules}
use borrow.Author.Tests.{ne_eqb}
use Rattle.packed.specs.Named.{instruction_at}
use Rattle.packed.proofs.named.instruction_at.Goals as goal

pub returns-in_default : goal.returns-in_default
unfolding instruction_at
returns-in_default c = search (rules, ne_eqb)
