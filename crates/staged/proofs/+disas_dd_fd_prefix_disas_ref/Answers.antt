-- CB and EB are not behind the prefix, so the rest is decoded, and its record says what becomes of it.
use Rattle.std.proofs.Common.{rules}
use mathlib.Core.Bool.{true}
use mathlib.Core.Path.{◌≡◌, ◌∙◌}
use borrow.Author.Tests.{ne_eqb}
use Rattle.table.specs.Decode.{is_prefix}
use Rattle.table.specs.Consequences.{first}
use Rattle.staged.specs.Chain.{prefix_of}
use Rattle.staged.proofs.Rest.{rest_is}
use Rattle.staged.proofs.+disas_dd_fd_prefix_disas_ref.Goals as goal

pub disas_dd_fd_prefix-returns-in-Break : goal.disas_dd_fd_prefix-returns-in-Break
unfolding prefix_of
disas_dd_fd_prefix-returns-in-Break t c =
    let prefixed : is_prefix (first c.args.ins.now) ≡ true = search rules in
    let told = c.in-Break.ensures ∙ rest_is c.args.ins.now c.args.rec c.requires in
    rw (prefixed, ne_eqb _ _ c.if-ins2.false, ne_eqb _ _ c.if-ins2-2.false, ← told) c.replace.ensures

pub disas_dd_fd_prefix-returns-in-Continue : goal.disas_dd_fd_prefix-returns-in-Continue
unfolding prefix_of
disas_dd_fd_prefix-returns-in-Continue t c =
    let prefixed : is_prefix (first c.args.ins.now) ≡ true = search rules in
    let told = c.in-Continue.ensures ∙ rest_is c.args.ins.now c.args.rec c.requires in
    rw (prefixed, ne_eqb _ _ c.if-ins2.false, ne_eqb _ _ c.if-ins2-2.false, ← told) c.pass-in-Continue.ensures
