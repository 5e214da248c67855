-- What the writer wrote stands in the line that was lent to it.
use Rattle.std.proofs.Common.{rules, List, ℕ}
use mathlib.Core.Path.{subst}
use Rattle.wording.specs.Text.{text_of}
use Rattle.writer.specs.Wrote.{Wrote}
use Rattle.text.proofs.text_in.Goals as goal

pub returns : goal.returns
returns c =
    let w = rw (c.new-writer.ensures.bytes, c.new-writer.ensures.front) at c.put_text.ensures.wrote in
    subst (λ (b : List ℕ). Wrote c.args.line.now 0 (text_of c.args.choice c.args.rec) b c.put_text.new.out.at) {x = c.put_text.new.out.buf.now} (search rules) w
