-- What the program's edits leave. Definitions only.
use Rattle.std.specs.Prelude.{cond, ℕ, eqb}
use Rattle.opcode.specs.declared.record.OpCode.{OpCode}
use Rattle.opcode.specs.declared.timing.Timing.{Timing}
use Rattle.opcode.specs.Timing.{insert_of, extend_of, push_of, remove_of}
use Rattle.owner.specs.Owner.{twice}
use Rattle.owner.specs.declared.Twice.{Twice}

-- 0: extend and push; another number: insert and remove
abbrev pub edits_of : ℕ → OpCode → Timing → ℕ → ℕ → Twice
edits_of asked r more first second =
    cond (eqb asked 0) (twice (extend_of r more) (λ x. push_of x (record { 0 = first }))) (twice (insert_of r first more) (λ x. remove_of x second))
