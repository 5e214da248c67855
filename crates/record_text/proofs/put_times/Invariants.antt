-- After each turn those so far are written.
use Rattle.std.proofs.Common.{take}
use Rattle.wording.specs.Text.{each, next_time}
use Rattle.writer.specs.Puts.{Puts}
use Rattle.record_text.proofs.put_times.Given as goal

abbrev pub invariant-loop-next : goal.invariant-loop-next
invariant-loop-next l = Puts l.initial.out (each next_time (take l.next-index l.next-items)) l.out
