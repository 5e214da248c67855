-- What is read so far has room, and what is left of that falls.
use Rattle.std.proofs.Common.{◌≤◌, ◌-◌, length}
use Rattle.edits.proofs.read_full.Given as goal

abbrev pub invariant-loop-n : goal.invariant-loop-n
invariant-loop-n g l = l.done ≤ length l.input

abbrev pub decreases-loop-n : goal.decreases-loop-n
decreases-loop-n g l = length l.initial.input - l.done
