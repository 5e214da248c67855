-- The stages in their order, and the page.
use mathlib.Core.List.{[], ◌∷◌}
use mathlib.Core.Path.{◌∙◌}
use Rattle.table.specs.Row.{word_of}
use Rattle.stage.proofs.Orders.{takes, passes}
use Rattle.three_bytes.specs.Byte.{byte_row}
use Rattle.three_bytes.specs.Mask.{mask_row}
use Rattle.three_bytes.proofs.Page.{page}
use Rattle.three_bytes.proofs.three_bytes.Goals as goal

pub returns-in_err-rec : goal.returns-in_err-rec
returns-in_err-rec c =
    let b = c.args.ins1 in
    let w = word_of (c.args.ins2 ∷ c.args.ins3 ∷ []) in
    c.from_residual.ensures
    ∙ takes (mask_row b w) (byte_row b w) [] c.args.rec _ (rw c.word-nn.ensures at c.in_err-rec.ensures)
    ∙ page c.args.rec c.args.ins2 c.args.ins3 b c.ranges.ins1.fits

pub returns : goal.returns
returns c =
    let b = c.args.ins1 in
    let w = word_of (c.args.ins2 ∷ c.args.ins3 ∷ []) in
    passes (mask_row b w) (byte_row b w) [] c.args.rec _ _ (rw c.word-nn.ensures at c.in_ok-rec.ensures)
    (rw c.word-nn.ensures at c.disas_three_bytes.ensures)
    ∙ page c.args.rec c.args.ins2 c.args.ins3 b c.ranges.ins1.fits
