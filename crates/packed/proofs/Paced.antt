-- The pace by the number of an instruction: one test over all numbers. Assumes nothing.
use mathlib.Core.Path.{◌≡◌, refl}
use mathlib.Core.Bool.{Bool, true, false}
use Prim.Native.Nat.{ℕ, ◌<◌, ◌%◌}
use Rattle.opcode.specs.Times.{span_by}
use Rattle.table.proofs.Upto.{agree}
use Rattle.packed.specs.Digits.{digit_at}
use Rattle.packed.specs.Named.{instruction_at}
use Rattle.packed.specs.Paces.{paces_of, pace_digit, quick_of, span_for}

pub pace_is : (conditional : Bool) (sum n : ℕ) → n < 256 → span_for (pace_digit n % 8) conditional sum ≡ span_by (instruction_at n) conditional sum
unfolding digit_at paces_of pace_digit quick_of instruction_at
pace_is true sum n = agree (λ (k : ℕ). span_for (pace_digit k % 8) true sum) (λ (k : ℕ). span_by (instruction_at k) true sum) (span_for 0 true sum) 256 refl n
pace_is false sum n = agree (λ (k : ℕ). span_for (pace_digit k % 8) false sum) (λ (k : ℕ). span_by (instruction_at k) false sum) (span_for 0 false sum) 256 refl n
