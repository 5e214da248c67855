-- CB, EB and LD (HL), n are not behind the prefix, so the rest is decoded; where it is a row its number is one.
use mathlib.Core.Path.{◌≡◌, sym, ◌∙◌}
use borrow.Author.Rules.{rules}
use borrow.Author.Tests.{ne_eqb}
use Rattle.std.specs.Prelude.{Ok, drop}
use Rattle.chain.specs.Chain.{rest_of, prefix_of}
use Rattle.disas.proofs.Rest.{rest_is, rest_row}
use Rattle.disas.proofs.+disas_dd_fd_prefix_disas_ref.Goals as goal

pub disas_dd_fd_prefix-returns-in-Ok : goal.disas_dd_fd_prefix-returns-in-Ok
unfolding prefix_of
disas_dd_fd_prefix-returns-in-Ok t c =
    let e : rest_of (drop 1 c.args.ins.now) ≡ Ok c.in-Ok.rest = sym (rest_is c.args.ins.now c.requires) ∙ (sym c.disas_ref.ensures ∙ c.in-Ok.is) in
    rw (e, rest_row c.args.ins.now _ (λ k. (c.type_inv.ins k).fits) c.requires e) (search (rules, ne_eqb))
