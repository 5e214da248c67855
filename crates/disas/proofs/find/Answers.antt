-- Of bytes a row has a number that is one.
use Rattle.std.proofs.Common.{rules, ◌≡◌}
use Rattle.std.specs.Prelude.{Ok}
use Rattle.chain.specs.Chip.{number_in}
use Rattle.disas.specs.Says.{found_of}
use Rattle.disas.proofs.Finding.{number_row}
use Rattle.disas.proofs.find.Goals as goal

pub returns : goal.returns
unfolding found_of
returns c =
    let e : number_in c.args.mode c.args.ins.now ≡ Ok c.in_ok-row.row = search rules in
    let t = number_row c.args.mode c.args.ins.now _ (λ k. (c.type_inv.ins k).fits) (search rules) (search rules) e in
    rw (e, t) (search rules)
