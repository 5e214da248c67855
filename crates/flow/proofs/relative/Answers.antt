-- The sum of the address and the operand's 16 bits.
use Rattle.std.proofs.Common.{◌∙◌, w16}
use Rattle.std.proofs.lemmas.Int.{to_z-of_z}
use Rattle.flow.proofs.Wrapping.{relative_by}
use Rattle.flow.proofs.relative.Goals as goal

pub returns : goal.returns
returns c = (rw (to_z-of_z w16 c.args.e c.ranges.e) at c.wrapping_add_signed.ensures) ∙ relative_by c.args.address c.args.e c.ranges.address.fits c.ranges.e
