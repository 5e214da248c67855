-- What the writer wrote stands in the line that was lent to it.
use Rattle.std.proofs.Common.{rules, ◌+◌, List, ℕ, drop}
use mathlib.Core.Path.{subst}
use Rattle.image.specs.Places.{window}
use Rattle.listing.specs.Rows.{line_of}
use Rattle.writer.specs.Wrote.{Wrote}
use Rattle.lines.proofs.row_in.Goals as goal

pub returns-clause-wrote : goal.returns-clause-wrote
returns-clause-wrote c =
    let i = c.args.image.now in
    let w = rw (c.new-writer.ensures.bytes, c.new-writer.ensures.front) at c.put_row-passed.ensures.wrote.wrote in
    subst (λ (b : List ℕ). Wrote c.args.line.now 0 (line_of c.args.mode (i.origin + c.args.place) (window (drop c.args.place i.bytes.now))) b c.put_row-passed.new.out.at) {x = c.put_row-passed.new.out.buf.now} (search rules) w
