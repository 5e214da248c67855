-- Whether a bit of a choice is set is whether it has that part: one test over all bytes. Assumes nothing.
use mathlib.Core.Bool.{Bool, false, not}
use mathlib.Core.Path.{◌≡◌, refl}
use Prim.Native.Nat.{ℕ, ◌<◌}
use lib.Bits.{bit_and}
use lib.Dec.{eqb}
use Rattle.table.proofs.Upto.{agree}
use Rattle.wording.specs.Text.{has_bytes, has_instruction, has_times}

abbrev pub is_set : ℕ → ℕ → Bool
is_set bit choice = not (eqb (bit_and choice bit) 0)

pub bytes_bit : (choice : ℕ) → choice < 256 → is_set 1 choice ≡ has_bytes choice
bytes_bit = agree (is_set 1) has_bytes false 256 refl

pub instruction_bit : (choice : ℕ) → choice < 256 → is_set 2 choice ≡ has_instruction choice
instruction_bit = agree (is_set 2) has_instruction false 256 refl

pub times_bit : (choice : ℕ) → choice < 256 → is_set 4 choice ≡ has_times choice
times_bit = agree (is_set 4) has_times false 256 refl
