-- A text written through a writer. Definitions only.
use Rattle.std.specs.Prelude.{ℕ, ◌≡◌, List}
use Rattle.std.specs.Borrow.{MutBor}
use Rattle.std.specs.Fn.{Once}
use Rattle.writer.specs.declared.Writer.{Writer}
use Rattle.writer.specs.Wrote.{Wrote}

-- the text stands behind what `old` had written, in the same lent bytes, as far as there is room
pub record Puts (old : Writer) (t : List ℕ) (new : Writer) : Type 0 where
  pub same : new.buf.ghost_name ≡ old.buf.ghost_name
  pub wrote : Wrote old.buf.now old.at t new.buf.now new.at

-- a call of f at a writer writes the text, whatever it had written
abbrev pub Writes : {F : Type 0} → Once F (MutBor Writer × Unit {0}) (Unit {0} × (MutBor Writer × Unit {0})) → F → List ℕ → Type 0
Writes g f t = (before after : MutBor Writer) → g.post f (before, tt) (tt, (after, tt)) → Puts before.now t after.now
