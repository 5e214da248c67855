-- Each row has the number of the table's line, by computing it.
use mathlib.Core.Path.{refl}
use Rattle.table.specs.Plain.{plain}
use Rattle.packed.specs.Packed.{packed}
use Rattle.pages.proofs.plain.PlainPage.ROWS.Goals as goal

pub returns : goal.returns
unfolding plain packed
returns c = refl
