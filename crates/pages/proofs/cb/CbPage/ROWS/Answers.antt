-- Each row has the number of the table's line, by computing it.
use mathlib.Core.Path.{refl}
use Rattle.table.specs.Cb.{cb}
use Rattle.packed.specs.Packed.{packed}
use Rattle.pages.proofs.cb.CbPage.ROWS.Goals as goal

pub returns : goal.returns
unfolding cb packed
returns c = refl
