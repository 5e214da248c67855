-- The sum of the places so far, each of at most 255.
use Rattle.std.proofs.Common.{◌≡◌, ◌*◌, ◌≤◌, take}
use Rattle.opcode.specs.Record.{sum}
use Rattle.opcode.proofs.times.total.Given as goal

abbrev pub invariant-loop-place : goal.invariant-loop-place
invariant-loop-place l = (l.sum ≡ sum (take l.place-index l.place-items)) × (l.sum ≤ 255 * l.place-index)
