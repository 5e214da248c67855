-- Each row has the number of the table's line, by computing it.
use mathlib.Core.Path.{refl}
use Rattle.table.specs.Ed.{ed}
use Rattle.packed.specs.Packed.{packed}
use Rattle.pages.proofs.ed.EdPage.ROWS.Goals as goal

pub returns : goal.returns
unfolding ed packed
returns c = refl
