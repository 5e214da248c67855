-- What is found says what the table says, also as an outcome.
use mathlib.Core.Path.{ap, ◌∙◌}
use Rattle.table.specs.Decode.{told_by}
use Rattle.table.proofs.Answers.{told_in}
use Rattle.disas.proofs.Finding.{found_told}
use Rattle.disas.proofs.disas.Goals as goal

pub returns-in-Ok-clause-answer : goal.returns-in-Ok-clause-answer
returns-in-Ok-clause-answer c = rw c.made.ensures (found_told c.args.mode c.args.ins.now _ (λ k. (c.type_inv.ins k).fits) c.in-Ok.ensures)

pub returns-in-Ok-clause-told : goal.returns-in-Ok-clause-told
returns-in-Ok-clause-told c = ap told_by (returns-in-Ok-clause-answer c) ∙ told_in c.args.mode c.args.ins.now

pub returns-in-Err-clause-answer : goal.returns-in-Err-clause-answer
returns-in-Err-clause-answer c = rw (c.into.ensures, c.new.ensures) (found_told c.args.mode c.args.ins.now _ (λ k. (c.type_inv.ins k).fits) c.in-Err.ensures)

pub returns-in-Err-clause-told : goal.returns-in-Err-clause-told
returns-in-Err-clause-told c = ap told_by (returns-in-Err-clause-answer c) ∙ told_in c.args.mode c.args.ins.now
