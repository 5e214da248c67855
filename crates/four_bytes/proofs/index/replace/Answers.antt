-- Operands replaced, T-states put in and LD (IX+d),n mended are what the definition has at once.
use mathlib.Core.Bool.{◌||◌}
use mathlib.Core.List.{[], ◌∷◌}
use mathlib.Core.Path.{◌≡◌, ap, ◌∙◌}
use native.Mathlib.Omega.{arith}
use borrow.Author.Tests.{le-ltb}
use Rattle.stage.specs.Stage.{taken}
use Rattle.table.specs.Steps.{has_addr, has_hl, timing, named}
use Rattle.four_bytes.specs.Replaced.{addressed, renamed, lengthened, loaded, replaced}
use Rattle.four_bytes.proofs.Prefixed.{told, untold, with_addr_lem}
use Rattle.four_bytes.proofs.index.replace.Goals as goal

pub lengthen-longer-requires : goal.lengthen-longer-requires
lengthen-longer-requires c =
    let x = told _ _ _ c.in-Some.ensures in
    rw x.1 (omega arith)

pub returns-in-Some : goal.returns-in-Some
unfolding replaced
returns-in-Some c =
    let o = c.args.rec in
    let x = told (has_addr o.op1 || has_addr o.op2) (addressed (named c.args.prefix) c.args.d o) _ c.in-Some.ensures in
    let mended : c.fix_load.result ≡ loaded c.args.n (lengthened (addressed (named c.args.prefix) c.args.d o) 2 (timing (4 ∷ 3 ∷ 5 ∷ []))) =
    rw (c.lengthen-longer.ensures, c.cycles.ensures, x.1) at c.fix_load.ensures in
    rw (le-ltb 4 o.length.0 c.if-rec-gt4.false, x.0) (ap taken (mended ∙ with_addr_lem (named c.args.prefix) c.args.d c.args.n o))

pub lengthen-requires : goal.lengthen-requires
lengthen-requires c =
    let x = told _ _ _ c.in-Some-replace_hl.ensures in
    rw x.1 (omega arith)

pub returns-in-Some-replace_hl : goal.returns-in-Some-replace_hl
unfolding replaced
returns-in-Some-replace_hl c =
    let o = c.args.rec in
    let none = untold (has_addr o.op1 || has_addr o.op2) (addressed (named c.args.prefix) c.args.d o) c.in_default.ensures in
    let x = told (has_hl o.op1 || has_hl o.op2) (renamed (named c.args.prefix) o) _ c.in-Some-replace_hl.ensures in
    rw (le-ltb 4 o.length.0 c.if-rec-gt4.false, none, x.0) (ap taken (rw (c.cycles-in-Some-replace_hl.ensures, x.1) at c.lengthen.ensures))

pub returns : goal.returns
unfolding replaced
returns c =
    let o = c.args.rec in
    let none = untold (has_addr o.op1 || has_addr o.op2) (addressed (named c.args.prefix) c.args.d o) c.in_default.ensures in
    let neither = untold (has_hl o.op1 || has_hl o.op2) (renamed (named c.args.prefix) o) c.in_default-replace_hl.ensures in
    rw (le-ltb 4 o.length.0 c.if-rec-gt4.false, none, neither) c.pass-2.ensures
