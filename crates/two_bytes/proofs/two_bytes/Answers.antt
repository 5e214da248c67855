-- The stages in their order, and the pages.
use mathlib.Core.Path.{◌∙◌}
use Rattle.stage.proofs.Orders.{takes_next, passes_next}
use Rattle.two_bytes.proofs.Pages.{page}
use Rattle.two_bytes.proofs.two_bytes.Goals as goal

pub returns-in_err-rec : goal.returns-in_err-rec
returns-in_err-rec c =
    c.from_residual.ensures
    ∙ takes_next _ _ _ c.in_err-rec.ensures
    ∙ page c.args.rec c.args.ins1 c.args.ins2 c.ranges.ins1.fits c.ranges.ins2.fits

pub returns : goal.returns
returns c =
    passes_next _ _ _ _ c.in_ok-rec.ensures c.disas_two_bytes.ensures
    ∙ page c.args.rec c.args.ins1 c.args.ins2 c.ranges.ins1.fits c.ranges.ins2.fits
