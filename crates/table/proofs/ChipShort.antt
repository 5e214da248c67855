-- The chip has a row for all bytes, and too few to decide it are DD or FD alone, or fewer than its length.
-- Assumes nothing.
use mathlib.Core.Path.{◌≡◌, refl, sym, ◌∙◌}
use mathlib.Core.Logic.{◌⊎◌, inl, inr, ⊎_elim, ◌↔◌}
use mathlib.Core.Bool.{Bool, true, false, cond, ◌||◌, true≢false}
use mathlib.Core.List.{List}
use Prim.Native.Nat.{ℕ, ◌<◌, ◌≤◌}
use native.Mathlib.Omega.{arith}
use lib.Dec.{eqb, ltb}
use lib.ListN.{length, get_or}
use borrow.Author.Tests.{ltb-true, ltb-false}
use Rattle.table.specs.declared.Mode.{Mode}
use Rattle.table.specs.Row.{Index, ix, iy, Row, row, gap}
use Rattle.table.specs.Departures.{needed}
use Rattle.table.specs.Plain.{plain}
use Rattle.table.specs.Cb.{cb}
use Rattle.table.specs.Ed.{ed}
use Rattle.table.specs.Prefix.{bit_row}
use Rattle.table.specs.Decode.{is_prefix}
use Rattle.table.specs.Chip.{defined, chip_prefixed, chip_behind, chip_row_of, chip_needed_of}
use Rattle.table.specs.Consequences.{values, AllBytes, first, second, length_of, TooFew}
use Rattle.table.specs.Modes.{is_gap}
use Rattle.table.proofs.Upto.{agree}
use Rattle.table.proofs.Pages.{chosen}
use Rattle.table.proofs.Answers.{prefixed, is_prefixed, unprefixed, plain_gaps, cb_full}

-- every row of the chip's is one
abbrev IsRow : Row → Type 0
IsRow x = is_gap x ≡ false

bit_row_lem : (i : Index) (c : ℕ) (x : Row) → IsRow x → IsRow (bit_row i c x)
bit_row_lem i c gap e = absurd (true≢false e)
bit_row_lem i c (row ins x y z n t) e = chosen IsRow (ltb c 0x40) _ _ refl (chosen IsRow (ltb c 0x80) _ _ refl refl)

defined_row : (x : Row) → IsRow (defined x)
defined_row gap = refl
defined_row (row i x y z n t) = refl

prefixed_all : (i : Index) → values (λ (b : ℕ). is_gap (chip_prefixed i (get_or plain b gap))) 0 256 ≡ values (λ (b : ℕ). false) 0 256
unfolding plain
prefixed_all i = refl

behind_row_lem : (i : Index) (b1 b3 : ℕ) → b1 < 256 → b3 < 256 → IsRow (chip_behind i b1 b3)
unfolding chip_behind
behind_row_lem i b1 b3 h1 h3 =
    chosen IsRow (eqb b1 0xCB) _ _ (bit_row_lem i b3 (get_or cb b3 gap) (agree (λ (b : ℕ). is_gap (get_or cb b gap)) (λ (b : ℕ). false) true 256 cb_full b3 h3))
    (chosen IsRow (eqb b1 0xEB) _ _ refl
    (chosen IsRow (eqb b1 0x36) _ _ refl
    (agree (λ (b : ℕ). is_gap (chip_prefixed i (get_or plain b gap))) (λ (b : ℕ). false) true 256 (prefixed_all i) b1 h1)))

pub chip_row : (s : List ℕ) → AllBytes s → IsRow (chip_row_of s)
unfolding chip_row_of
chip_row s bytes = by_prefix_lem (is_prefix (first s)) refl
  where
    by_tests : (u v : Bool) → is_prefix (first s) ≡ false → eqb (first s) 0xCB ≡ u → eqb (first s) 0xED ≡ v → IsRow (chip_row_of s)
    by_tests true v q e f = rw (unprefixed Mode.Chip s q, e) (agree (λ (b : ℕ). is_gap (get_or cb b gap)) (λ (b : ℕ). false) true 256 cb_full (second s) (bytes 1))
    by_tests false true q e f = rw (unprefixed Mode.Chip s q, e, f) (defined_row (get_or ed (second s) gap))
    by_tests false false q e f =
        rw (unprefixed Mode.Chip s q, e, f)
        (agree (λ (b : ℕ). is_gap (get_or plain b gap)) (λ (b : ℕ). eqb b 0xCB || (eqb b 0xED || is_prefix b)) true 256 plain_gaps (first s) (bytes 0) ∙ rw (e, f, q))

    by_prefix_lem : (b : Bool) → is_prefix (first s) ≡ b → IsRow (chip_row_of s)
    by_prefix_lem true q =
        ⊎_elim (λ e. rw e (behind_row_lem ix (get_or s 1 0) (get_or s 3 0) (bytes 1) (bytes 3))) (λ e. rw e (behind_row_lem iy (get_or s 1 0) (get_or s 3 0) (bytes 1) (bytes 3))) (prefixed (first s) q)
    by_prefix_lem false q = by_tests (eqb (first s) 0xCB) (eqb (first s) 0xED) q refl refl

pub row_needed : (x : Row) → IsRow x → needed x ≡ length_of x
row_needed gap e = absurd (true≢false e)
row_needed (row i x y z n t) e = refl

-- too few, where n are in the row and l are there
below : (b c : Bool) (n l : ℕ) → ltb 2 n ≡ c → 1 ≤ l → l < cond b (cond c n 2) n → ((l ≡ 1) × (b ≡ true)) ⊎ (l < n)
below true true n l q some h = inr h
below true false n l q some h = inl (omega arith, refl)
below false c n l q some h = inr h

above : (b c : Bool) (n l : ℕ) → ltb 2 n ≡ c → ((l ≡ 1) × (b ≡ true)) ⊎ (l < n) → l < cond b (cond c n 2) n
above true true n l q (inl w) = omega (arith, w.0, ltb-true 2 n q)
above true true n l q (inr h) = h
above true false n l q (inl w) = omega (arith, w.0)
above true false n l q (inr h) = omega (arith, ltb-false 2 n q)
above false c n l q (inl w) = absurd (true≢false (sym w.1))
above false c n l q (inr h) = h

module _ (s : List ℕ) (bytes : AllBytes s) (some : 1 ≤ length s) where
  abbrev needs : ℕ
  needs = needed (chip_row_of s)

  same : needs ≡ length_of (chip_row_of s)
  same = row_needed (chip_row_of s) (chip_row s bytes)

  pub chip_few : (length s < chip_needed_of s) ↔ TooFew Mode.Chip s
  chip_few = (to, from)
    where
      to : length s < chip_needed_of s → TooFew Mode.Chip s
      to less = ⊎_elim (λ w. inl (w.0, prefixed (first s) w.1)) (λ h. inr (omega (arith, same))) (below (is_prefix (first s)) (ltb 2 needs) needs (length s) refl some less)

      from : TooFew Mode.Chip s → length s < chip_needed_of s
      from why = above (is_prefix (first s)) (ltb 2 needs) needs (length s) refl (⊎_elim (λ w. inl (w.0, is_prefixed (first s) w.1)) (λ h. inr (omega (arith, same))) why)
