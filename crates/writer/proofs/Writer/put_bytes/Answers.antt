-- A byte behind the first i bytes is the first i + 1.
use Rattle.std.proofs.Common.{add-one}
use Rattle.std.proofs.Math.Seq.{take-suc}
use Rattle.writer.proofs.Laws.{put_none, ◌⟫◌}
use Rattle.writer.proofs.Writer.put_bytes.Goals as goal

pub loop-b-init : goal.loop-b-init
loop-b-init c = put_none _

pub loop-b-preserved : goal.loop-b-preserved
loop-b-preserved c =
    rw (add-one, take-suc _ c.loop-b.b-index 0 c.loop-b-test.true) (c.loop-b.invariant ⟫ c.put.ensures)
