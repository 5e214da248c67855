-- What stands at each place after places are written or put in, what the edits' tests say, and an insertion as two writes. Assumes nothing.
use mathlib.Core.Path.{◌≡◌, refl, ap, ◌∙◌}
use mathlib.Core.List.{List, [], ◌∷◌, ◌++◌}
use Prim.Native.Nat.{ℕ, zero, suc, ◌+◌, ◌-◌, ◌<◌, ◌≤◌}
use native.Mathlib.Omega.{arith}
use lib.ListN.{length, take, drop, get_or, length-append, length-drop, get_or-append}
use lib.Seq.{get_or-drop, length-take-le, take_all}
use Rattle.std.specs.List.{copy_within}
use Rattle.std.proofs.lemmas.Grind.{common_steps}
use Rattle.std.proofs.lemmas.List.{append_assoc, get_or-append_right}
use Rattle.std.proofs.Math.Seq.{take-append-add}
use mathlib.Core.Bool.{true}
use Rattle.opcode.specs.declared.counts.TStates.{TStates}
use Rattle.opcode.specs.Record.{unfilled, six}
use Rattle.opcode.specs.Timing.{written, inserted, removed, may_insert, may_extend, may_remove}

-- six places, one by one
pub each : (l : List TStates) {a b c d e f : TStates} → a ≡ get_or l 0 unfilled → b ≡ get_or l 1 unfilled → c ≡ get_or l 2 unfilled → d ≡ get_or l 3 unfilled → e ≡ get_or l 4 unfilled → f ≡ get_or l 5 unfilled → a ∷ b ∷ c ∷ d ∷ e ∷ f ∷ [] ≡ six l
each l p q r s t u = rw (p, q, r, s, t, u)

-- six places are the first six
six_take : (l : List TStates) → 6 ≤ length l → six l ≡ take 6 l
six_take [] h = absurd (omega (arith, h))
six_take (a ∷ []) h = absurd (omega (arith, h))
six_take (a ∷ b ∷ []) h = absurd (omega (arith, h))
six_take (a ∷ b ∷ c ∷ []) h = absurd (omega (arith, h))
six_take (a ∷ b ∷ c ∷ d ∷ []) h = absurd (omega (arith, h))
six_take (a ∷ b ∷ c ∷ d ∷ e ∷ []) h = absurd (omega (arith, h))
six_take (a ∷ b ∷ c ∷ d ∷ e ∷ f ∷ l) h = refl

pub six_at : (l : List TStates) (k : ℕ) → k < 6 → get_or (six l) k unfilled ≡ get_or l k unfilled
six_at l zero h = refl
six_at l (suc zero) h = refl
six_at l (suc (suc zero)) h = refl
six_at l (suc (suc (suc zero))) h = refl
six_at l (suc (suc (suc (suc zero)))) h = refl
six_at l (suc (suc (suc (suc (suc zero))))) h = refl
six_at l (suc (suc (suc (suc (suc (suc k)))))) h = absurd (omega (arith, h))

-- s behind the first pos places of l, and l again from place `on`: a write and an insertion alike
module _ (l s : List TStates) (pos on k : ℕ) (fits : pos ≤ length l) where
  abbrev spliced : List TStates
  spliced = take pos l ++ (s ++ drop on l)

  front_len : length (take pos l) ≡ pos
  front_len = length-take-le pos l fits

  pub mid : pos ≤ k → k < pos + length s → get_or spliced k unfilled ≡ get_or s (k - pos) unfilled
  mid h g =
      get_or-append_right (take pos l) (s ++ drop on l) pos k unfilled front_len h
      ∙ get_or-append s (drop on l) unfilled (k - pos) (omega arith)

  pub back : pos + length s ≤ k → get_or spliced k unfilled ≡ get_or l (on + (k - pos - length s)) unfilled
  back h =
      get_or-append_right (take pos l) (s ++ drop on l) pos k unfilled front_len (omega arith)
      ∙ get_or-append_right s (drop on l) (length s) (k - pos) unfilled refl (omega arith)
      ∙ get_or-drop on l (k - pos - length s) unfilled

-- a copy within six places is a write of what stands there
pub copying : (t : List TStates) (i j to : ℕ) → length t ≡ 6 → j ≤ 6 → copy_within t i j to ≡ written t to (take (j - i) (drop i t))
unfolding written
copying t i j to those end =
    rw (length-take-le (j - i) (drop i t) (omega (arith, length-drop i t, those, end))) (append_assoc (take to t) (take (j - i) (drop i t)) (drop (to + (j - i)) t))

-- an insertion is two writes: what stands from pos on goes behind s, and then s over it
module _ (t s : List TStates) (pos : ℕ) (those : length t ≡ 6) (fits : pos + length s ≤ 6) where
  -- so many of the places from pos on stay among the six
  abbrev staying : ℕ
  staying = 6 - length s - pos

  abbrev moved : List TStates
  moved = written t (pos + length s) (take staying (drop pos t))

  in_front : take pos moved ≡ take pos t
  unfolding written
  in_front = grind (arith, common_steps, those, fits)

  behind : drop (pos + length s) moved ≡ take staying (drop pos t)
  unfolding written
  behind = grind (arith, common_steps, those, fits)

  first_six : take 6 (take pos t ++ (s ++ drop pos t)) ≡ take pos t ++ (s ++ take staying (drop pos t))
  first_six =
      let e : 6 ≡ length (take pos t) + (length s + staying) = omega (arith, length-take-le pos t (omega (arith, those, fits)), fits) in
      ap (λ (n : ℕ). take n (take pos t ++ (s ++ drop pos t))) e
      ∙ take-append-add (take pos t) (s ++ drop pos t) (length s + staying)
      ∙ ap (λ (l : List TStates). take pos t ++ l) (take-append-add s (drop pos t) staying)

  pub inserting : written moved pos s ≡ six (inserted t pos s)
  unfolding written inserted
  inserting = rw (in_front, behind, six_take (take pos t ++ (s ++ drop pos t)) (omega (arith, length-append {A = TStates}, length-drop {A = TStates}, length-take-le pos t, those, fits)), first_six) refl

-- a removal is one: what stands behind pos goes one place up
module _ (t : List TStates) (pos : ℕ) (those : length t ≡ 6) (fits : pos < 6) where
  pub rest_len : length (drop (pos + 1) t) ≡ 6 - 1 - pos
  rest_len = length-drop (pos + 1) t ∙ omega (arith, those)

  pub removed_len : length (removed t pos) ≡ 6
  unfolding removed written
  removed_len = grind (arith, common_steps, those, fits)

  pub removing : written t pos (take (6 - (pos + 1)) (drop (pos + 1) t)) ≡ removed t pos
  unfolding removed
  removing = ap (λ (l : List TStates). written t pos l) (take_all (6 - (pos + 1)) (drop (pos + 1) t) (omega (arith, rest_len)))

-- what the tests say
pub may_insert_lem : (m pos n : ℕ) → may_insert m pos n ≡ true → (m ≤ 6) × (pos ≤ m) × (m + n ≤ 6)
unfolding may_insert
may_insert_lem m pos n e = grind (arith, common_steps)

pub may_remove_lem : (m pos : ℕ) → may_remove m pos ≡ true → (m ≤ 6) × (pos < m)
unfolding may_remove
may_remove_lem m pos e = grind (arith, common_steps)

-- an extension asks what an insertion at the end asks
pub at_the_end : (m n : ℕ) → may_insert m m n ≡ may_extend m n
unfolding may_insert may_extend
at_the_end m n = grind (arith, common_steps)
