-- What is read so far has room, and what is left of that falls.
use Rattle.std.proofs.Common.{◌≤◌, ◌-◌, length}
use Rattle.list.proofs.read_image.Given as goal

abbrev pub invariant-loop-done : goal.invariant-loop-done
invariant-loop-done g l = l.done ≤ length l.image

abbrev pub decreases-loop-done : goal.decreases-loop-done
decreases-loop-done g l = length l.initial.image - l.done
