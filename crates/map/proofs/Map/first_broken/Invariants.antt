-- The pass goes on from this place.
use Rattle.std.proofs.Common.{length, ◌-◌}
use Rattle.marking.proofs.Turns.{Turning}
use Rattle.flow.specs.Flow.{look_of}
use Rattle.flow.proofs.Sane.{sane}
use Rattle.map.specs.Chart.{chart_of}
use Rattle.map.proofs.Map.first_broken.Given as goal

abbrev pub invariant-loop-place : goal.invariant-loop-place
invariant-loop-place l = Turning (look_of l.mode) (sane l.mode) (chart_of l.self) l.place

abbrev pub decreases-loop-place : goal.decreases-loop-place
decreases-loop-place l = length l.self.image.bytes.now - l.place
