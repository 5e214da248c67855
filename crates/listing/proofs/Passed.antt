-- How many bytes a row passes. Assumes nothing.
use mathlib.Core.Path.{◌≡◌, refl}
use Prim.Native.Nat.{ℕ, ◌≤◌}
use native.Mathlib.Omega.{arith}
use mathlib.Core.List.{List}
use lib.ListN.{length}
use Rattle.table.specs.declared.Mode.{Mode}
use Rattle.opcode.specs.declared.record.OpCode.{OpCode}
use Rattle.table.specs.declared.Answer.{Answer}
use Rattle.table.specs.Chip.{decode_in}
use Rattle.table.specs.Consequences.{Keeps}
use Rattle.table.proofs.Sizes.{sizes}
use Rattle.line.specs.Line.{passed_by}
use Rattle.image.specs.Places.{window}
use Rattle.image.proofs.Window.{window_size}
use Rattle.listing.specs.Rows.{passed_of}

module _ (mode : Mode) where
  -- p bytes passed of n looked at
  record Passes (n p : ℕ) : Type 0 where
    least : 1 ≤ p
    most : p ≤ 4
    looked : 1 ≤ n → p ≤ n

  one : (n : ℕ) → Passes n 1
  one n = record { least = omega arith; most = omega arith; looked = λ some. some }

  passes : (n : ℕ) (a : Answer) (r : OpCode) → (a ≡ Answer.Done → Keeps n r) → Passes n (passed_by a r)
  passes n Answer.Done r keeps = let k = keeps refl in record { least = k.length_least; most = k.length_most; looked = λ some. k.length_given }
  passes n Answer.Nothing r keeps = one n
  passes n (Answer.Short k) r keeps = one n
  passes n Answer.Long r keeps = one n

  of : (w : List ℕ) → Passes (length w) (passed_of mode w)
  unfolding passed_of
  of w = passes (length w) (decode_in mode w).answer (decode_in mode w).rec (sizes mode w)

  pub passed_least : (w : List ℕ) → 1 ≤ passed_of mode w
  passed_least w = (of w).least

  pub passed_most : (w : List ℕ) → passed_of mode w ≤ 4
  passed_most w = (of w).most

  -- no row passes more than there is
  pub passed_within : (s : List ℕ) → 1 ≤ length s → passed_of mode (window s) ≤ length s
  passed_within s some = omega (arith, (of (window s)).looked (omega (arith, window_size s)), window_size s)
