-- No line is longer than 58 bytes, and one that is made has its own length.
use Rattle.std.proofs.Common.{arith, ℕ, leb, sym, ap}
use borrow.Author.Tests.{le-leb}
use Rattle.writer.proofs.Laws.{counted}
use Rattle.lines.proofs.Fits.{fits}
use Rattle.lines.proofs.has_room.Goals as goal

pub returns-then-room-ge-LINE_MAX : goal.returns-then-room-ge-LINE_MAX
returns-then-room-ge-LINE_MAX c = sym (le-leb _ c.args.room (omega (arith, fits c.args.mode c.args.image.now c.args.place)))

pub returns : goal.returns
returns c =
    let w = rw (c.new-writer.ensures.bytes, c.new-writer.ensures.front) at c.put_row.ensures.wrote.wrote in
    ap (λ (n : ℕ). leb n c.args.room) (counted w (fits c.args.mode c.args.image.now c.args.place))
