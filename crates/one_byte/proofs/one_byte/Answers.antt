-- The stages in their order, and the page.
use mathlib.Core.List.{[]}
use mathlib.Core.Path.{◌∙◌}
use Rattle.stage.specs.Stage.{or_else}
use Rattle.stage.proofs.Orders.{takes, passes}
use Rattle.one_byte.specs.Shift3.{shift3_row}
use Rattle.one_byte.specs.Mask.{mask_row}
use Rattle.one_byte.specs.Byte.{byte_row}
use Rattle.one_byte.proofs.Page.{page}
use Rattle.one_byte.proofs.one_byte.Goals as goal

pub returns-in_err-rec : goal.returns-in_err-rec
returns-in_err-rec c =
    let b = c.args.ins in
    let o = c.args.rec in
    c.from_residual.ensures
    ∙ takes (shift3_row b) (or_else (mask_row b) (byte_row b)) [] o _ c.in_err-rec.ensures
    ∙ page o b c.ranges.ins.fits

pub returns-in_err-rec-2 : goal.returns-in_err-rec-2
returns-in_err-rec-2 c =
    let b = c.args.ins in
    let o = c.args.rec in
    c.from_residual-in_err-rec-2.ensures
    ∙ passes (shift3_row b) (or_else (mask_row b) (byte_row b)) [] o _ _ c.in_ok-rec.ensures
    (takes (mask_row b) (byte_row b) [] _ _ (c.in_err-rec-2.ensures))
    ∙ page o b c.ranges.ins.fits

pub returns : goal.returns
returns c =
    let b = c.args.ins in
    let o = c.args.rec in
    passes (shift3_row b) (or_else (mask_row b) (byte_row b)) [] o _ _ c.in_ok-rec.ensures
    (passes (mask_row b) (byte_row b) [] _ _ _ c.in_ok-rec-2.ensures c.disas_one_byte.ensures)
    ∙ page o b c.ranges.ins.fits
