-- The test decides whether a digit is written.
use borrow.Author.Tests.{lt-leb, le-leb}
use Rattle.wording.specs.Digits.{digit_at}
use Rattle.writer.proofs.Laws.{put_none}
use Rattle.numerals.proofs.put_digit.Goals as goal

pub returns-then-p-n : goal.returns-then-p-n
unfolding digit_at
returns-then-p-n c = rw (le-leb c.args.p c.args.n c.if-p-n.true, ← c.digit.ensures) c.put.ensures

pub returns-else-p-n : goal.returns-else-p-n
unfolding digit_at
returns-else-p-n c = rw (lt-leb c.args.p c.args.n c.if-p-n.false) (put_none _)
