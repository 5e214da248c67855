-- T-states by their places.
-- Assumes nothing.
use mathlib.Core.Path.{◌≡◌, refl}
use mathlib.Core.List.{List, [], ◌∷◌}
use Prim.Native.Nat.{ℕ, zero, suc, ◌<◌}
use native.Mathlib.Omega.{arith}
use lib.ListN.{length, get_or, take}
use lib.Seq.{ext_get_or}
use Rattle.opcode.specs.declared.counts.TStates.{TStates}
use Rattle.opcode.specs.Record.{unfilled, six}
use Rattle.table.specs.Row.{states}

pub state_at : (t : List ℕ) (k : ℕ) → get_or (states t) k unfilled ≡ record { 0 = get_or t k 0 }
state_at [] k = refl
state_at (x ∷ t) zero = refl
state_at (x ∷ t) (suc k) = state_at t k

-- six places hold no more than the first six
pub six_first : (t : List ℕ) → six (states (take 6 t)) ≡ six (states t)
six_first [] = refl
six_first (a ∷ []) = refl
six_first (a ∷ b ∷ []) = refl
six_first (a ∷ b ∷ c ∷ []) = refl
six_first (a ∷ b ∷ c ∷ d ∷ []) = refl
six_first (a ∷ b ∷ c ∷ d ∷ e ∷ []) = refl
six_first (a ∷ b ∷ c ∷ d ∷ e ∷ f ∷ t) = refl

-- six places, each with what m holds there
module _ (l m : List TStates) (long : length l ≡ 6) where
  abbrev Same : ℕ → Type 0
  Same k = get_or l k unfilled ≡ get_or m k unfilled

  pub six_filled : Same 0 → Same 1 → Same 2 → Same 3 → Same 4 → Same 5 → l ≡ six m
  six_filled a b c d e f = ext_get_or unfilled l (six m) long at
    where
      at : (k : ℕ) → k < length l → get_or l k unfilled ≡ get_or (six m) k unfilled
      at zero h = a
      at (suc zero) h = b
      at (suc (suc zero)) h = c
      at (suc (suc (suc zero))) h = d
      at (suc (suc (suc (suc zero)))) h = e
      at (suc (suc (suc (suc (suc zero))))) h = f
      at (suc (suc (suc (suc (suc (suc k)))))) h = absurd (omega arith)
