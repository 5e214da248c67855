-- The codes behind ED are the page's.
use mathlib.Core.Path.{◌∙◌}
use borrow.Author.Tests.{eq-eqb}
use Rattle.four_bytes.proofs.Pages.{pair_page}
use Rattle.four_bytes.proofs.disas_pair.Goals as goal

pub returns : goal.returns
returns c =
    rw (eq-eqb c.args.ins1 0xED c.if-ins1-ne237.false)
    ((rw (c.word.ensures, c.if-ins1-ne237.false, c.word-2.ensures) at c.disas_four_bytes_mask.ensures)
    ∙ pair_page c.args.rec c.args.ins3 c.args.ins4 c.args.ins2 c.ranges.ins2.fits)
