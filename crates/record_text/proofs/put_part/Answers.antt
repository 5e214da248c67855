-- Nothing, or what the closure writes.
use Rattle.writer.proofs.Laws.{put_none}
use Rattle.record_text.proofs.put_part.Goals as goal

pub returns-then-present : goal.returns-then-present
returns-then-present g c t writes = rw c.if-present.true (writes _ _ c.write.ensures)

pub returns-else-present : goal.returns-else-present
returns-else-present g c t writes = rw c.if-present.false (put_none _)
