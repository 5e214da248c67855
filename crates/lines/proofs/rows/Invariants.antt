-- What holds before each row is `Filling`, of the same lent bytes.
use Rattle.std.proofs.Common.{◌≡◌, ◌-◌, length}
use Rattle.lines.proofs.Filling.{Filling}
use Rattle.lines.proofs.rows.Given as goal

abbrev pub invariant-loop-place : goal.invariant-loop-place
invariant-loop-place l = (l.writer.buf.ghost_name ≡ l.initial.writer.buf.ghost_name) × Filling l.mode l.image.bytes.now l.image.origin l.start l.fn.out l.writer.buf.now l.writer.at l.place

abbrev pub decreases-loop-place : goal.decreases-loop-place
decreases-loop-place l = length l.image.bytes.now - l.place
