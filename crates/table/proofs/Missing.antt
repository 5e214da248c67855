-- The number that a Short answer carries is the fewest bytes that, for some choice of them, would make the decode succeed, in either mode.
-- Assumes nothing.
use mathlib.Core.Path.{◌≡◌, refl, sym, ◌∙◌}
use mathlib.Core.Bool.{Bool, true, false, cond}
use mathlib.Core.List.{List, [], ◌∷◌}
use Prim.Native.Nat.{ℕ, ◌-◌, ◌≤◌}
use native.Mathlib.Omega.{arith}
use lib.Dec.{T, eqb, ltb, ltb→lt}
use borrow.Author.Tests.{ltb-true, ne_eqb}
use lib.ListN.{length, get_or}
use Rattle.table.specs.declared.Answer.{Answer}
use Rattle.table.specs.declared.Mode.{Mode}
use Rattle.table.specs.Row.{Index, ix, iy, Row, gap}
use Rattle.table.specs.Departures.{needed}
use Rattle.table.specs.Plain.{plain}
use Rattle.table.specs.Cb.{cb}
use Rattle.table.specs.Ed.{ed}
use Rattle.table.specs.Decode.{number_of, missing_of, is_prefix, page_row, row_of, needed_of, short, rust}
use Rattle.table.specs.Chip.{defined, chip_behind, chip_row_of, chip_needed_of, chip, reading_of, decode_in}
use Rattle.table.specs.Consequences.{Below, Fewest}
use Rattle.table.proofs.Pages.{every, at_code}
use Rattle.table.proofs.Done.{undecided}
use Rattle.table.proofs.Sizes.{needed_at_most}
use Rattle.table.proofs.Answers.{page_row_lem, unprefixed, two, cb_two, ed_two, short_below}
use Rattle.table.proofs.Decided.{bit_needs}
use Rattle.table.proofs.Foretells.{Foretells, fewest, Alone, alone}

-- the Rust's reading
two_say : (b0 b1 : ℕ) (t : List ℕ) → needed_of (b0 ∷ b1 ∷ t) ≡ needed_of (b0 ∷ b1 ∷ [])
two_say b0 b1 t = by_prefix_lem (is_prefix b0) refl
  where
    by_prefix_lem : (b : Bool) → is_prefix b0 ≡ b → needed_of (b0 ∷ b1 ∷ t) ≡ needed_of (b0 ∷ b1 ∷ [])
    by_prefix_lem true q = rw q
    by_prefix_lem false q =
        let longer : eqb (length (b0 ∷ b1 ∷ t)) 1 ≡ false = ne_eqb (length (b0 ∷ b1 ∷ t)) 1 (λ e. omega arith) in
        rw (longer, q, page_row_lem (b0 ∷ b1 ∷ t) q, page_row_lem (b0 ∷ b1 ∷ []) q)

-- behind CB and ED two bytes may do
cb_alone : Alone rust 0xCB
unfolding row_of page_row cb
cb_alone = record { no_less = λ b1. ltb→lt 1 (needed (get_or cb b1 gap)) (at_code two cb cb_two tt b1); no_more = omega arith }

ed_one : Alone rust 0xED
unfolding row_of page_row ed
ed_one = record { no_less = λ b1. ltb→lt 1 (needed (get_or ed b1 gap)) (at_code two ed ed_two tt b1); no_more = omega arith }

prefix_alone : (b0 : ℕ) → is_prefix b0 ≡ true → Alone rust b0
prefix_alone b0 q = record { no_less = λ b1. rw q (omega arith); no_more = rw q (omega arith) }

-- any other byte says by itself how many are needed
pub plain_needs : (b0 : ℕ) (t : List ℕ) → is_prefix b0 ≡ false → eqb b0 0xCB ≡ false → eqb b0 0xED ≡ false → needed_of (b0 ∷ t) ≡ needed (get_or plain b0 gap)
unfolding page_row
plain_needs b0 t p c d = by_count (eqb (length (b0 ∷ t)) 1) refl
  where
    by_count : (b : Bool) → eqb (length (b0 ∷ t)) 1 ≡ b → needed_of (b0 ∷ t) ≡ needed (get_or plain b0 gap)
    by_count true q = rw (q, p, d, page_row_lem (b0 ∷ t) p, c, d)
    by_count false q = rw (q, p, page_row_lem (b0 ∷ t) p, c, d)

rust_alone : (b0 : ℕ) → Alone rust b0
rust_alone = alone rust (prefix_alone 0xDD refl) (prefix_alone 0xFD refl) cb_alone ed_one plain_needs

-- the chip's reading: behind a prefix, too, the first two bytes say how many
behind_says : (i : Index) (b1 b3 : ℕ) (b : Bool) → eqb b1 0xCB ≡ b → needed (chip_behind i b1 b3) ≡ needed (chip_behind i b1 0)
unfolding chip_behind
behind_says i b1 b3 true q = rw q (bit_needs i b3 (get_or cb b3 gap) ∙ sym (bit_needs i 0 (get_or cb 0 gap)))
behind_says i b1 b3 false q = rw q

chip_two_say : (b0 b1 : ℕ) (t : List ℕ) → chip_needed_of (b0 ∷ b1 ∷ t) ≡ chip_needed_of (b0 ∷ b1 ∷ [])
unfolding chip_row_of
chip_two_say b0 b1 t = by_index (eqb b0 0xDD) (eqb b0 0xFD) refl refl
  where
    by_index : (a b : Bool) → eqb b0 0xDD ≡ a → eqb b0 0xFD ≡ b → chip_needed_of (b0 ∷ b1 ∷ t) ≡ chip_needed_of (b0 ∷ b1 ∷ [])
    by_index true b p q = rw (p, behind_says ix b1 (get_or t 1 0) (eqb b1 0xCB) refl)
    by_index false true p q = rw (p, q, behind_says iy b1 (get_or t 1 0) (eqb b1 0xCB) refl)
    by_index false false p q = rw (p, q)

-- two bytes may do behind each byte that has a second byte of code
larger_least : (c : Bool) (n : ℕ) → ltb 2 n ≡ c → 2 ≤ cond c n 2
larger_least true n q = omega (arith, ltb-true 2 n q)
larger_least false n q = omega arith

chip_dd_alone : Alone chip 0xDD
unfolding chip_row_of chip_behind plain
chip_dd_alone = record { no_less = λ b1. larger_least (ltb 2 (needed (chip_behind ix b1 0))) (needed (chip_behind ix b1 0)) refl; no_more = omega arith }

chip_fd_alone : Alone chip 0xFD
unfolding chip_row_of chip_behind plain
chip_fd_alone = record { no_less = λ b1. larger_least (ltb 2 (needed (chip_behind iy b1 0))) (needed (chip_behind iy b1 0)) refl; no_more = omega arith }

chip_cb_alone : Alone chip 0xCB
unfolding chip_row_of page_row cb
chip_cb_alone = record { no_less = λ b1. ltb→lt 1 (needed (get_or cb b1 gap)) (at_code two cb cb_two tt b1); no_more = omega arith }

chip_ed_two : T (every (λ (x : Row). two (defined x)) ed)
unfolding ed
chip_ed_two = tt

chip_ed_alone : Alone chip 0xED
unfolding chip_row_of ed
chip_ed_alone = record { no_less = λ b1. ltb→lt 1 (needed (defined (get_or ed b1 gap))) (at_code (λ (x : Row). two (defined x)) ed chip_ed_two tt b1); no_more = omega arith }

chip_alone : (b0 : ℕ) → Alone chip b0
chip_alone = alone chip chip_dd_alone chip_fd_alone chip_cb_alone chip_ed_alone (λ b0 t p c d. rw (p, unprefixed Mode.Chip (b0 ∷ t) p, c, d))

pub foretells : (m : Mode) → Foretells (reading_of m)
foretells Mode.Rust = record { at_most = needed_at_most Mode.Rust; two_say = two_say; no_less = λ b0. (rust_alone b0).no_less; no_more = λ b0. (rust_alone b0).no_more }
foretells Mode.Chip = record { at_most = needed_at_most Mode.Chip; two_say = chip_two_say; no_less = λ b0. (chip_alone b0).no_less; no_more = λ b0. (chip_alone b0).no_more }

module _ (m : Mode) (s : List ℕ) where
  lacks : Below (reading_of m) s → decode_in m s ≡ short ((reading_of m).needed s - length s)
  unfolding decode_in
  lacks (some, few, less) = undecided (reading_of m) s some (omega arith) less

  -- 2, Short: the number it carries is the fewest
  pub missing_fewest : number_of (decode_in m s).answer ≡ 2 → Fewest (reading_of m) s (missing_of (decode_in m s).answer)
  missing_fewest e = let b = (short_below m s).0 e in rw (lacks b) (fewest (reading_of m) (foretells m) s b)

  -- it is 1 to 3
  pub missing_range : number_of (decode_in m s).answer ≡ 2 → (1 ≤ missing_of (decode_in m s).answer) × (missing_of (decode_in m s).answer ≤ 3)
  missing_range e = let b = (short_below m s).0 e in rw (lacks b) (omega (arith, b.2), omega (arith, b.0, needed_at_most m s))

-- every other answer carries 0
pub missing_none : (a : Answer) → (number_of a ≡ 2 → ⊥) → missing_of a ≡ 0
missing_none Answer.Done n = refl
missing_none Answer.Nothing n = refl
missing_none (Answer.Short k) n = absurd (n refl)
missing_none Answer.Long n = refl
