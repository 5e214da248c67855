-- What is left of the image falls.
use Rattle.std.proofs.Common.{◌≤◌, ◌-◌, length}
use Rattle.list.proofs.print.Given as goal

abbrev pub invariant-loop-place : goal.invariant-loop-place
invariant-loop-place g l = l.place ≤ length l.image

abbrev pub decreases-loop-place : goal.decreases-loop-place
decreases-loop-place g l = length l.image - l.place
