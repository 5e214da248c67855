-- The sizes of a decoded record: its length, its machine cycles, its T-state places and its row times, in either mode.
-- Assumes nothing.
use mathlib.Core.Path.{◌≡◌, refl, sym, ap, subst, ◌∙◌}
use mathlib.Core.Bool.{Bool, true, false, cond, ◌&&◌, true≢false}
use mathlib.Core.List.{List, [], ◌∷◌}
use Prim.Native.Nat.{ℕ, zero, suc, ◌<◌, ◌≤◌}
use native.Mathlib.Omega.{arith}
use lib.Dec.{T, eqb, ltb, leb, leb→le, ltb→lt}
use borrow.Author.Tests.{eqb-true, ltb-false}
use native.Mathlib.Nat.{le_of_suc-le-suc, le_trans}
use lib.ListN.{length, get_or, get_or-eq_default}
use Rattle.opcode.specs.declared.counts.TStates.{TStates}
use Rattle.opcode.specs.declared.instruction.Instruction.{Instruction}
use Rattle.opcode.specs.declared.record.OpCode.{OpCode}
use Rattle.opcode.specs.Record.{unfilled, six, sum}
use Rattle.opcode.specs.Times.{least_of, most_of}
use Rattle.table.specs.declared.Answer.{Answer}
use Rattle.table.specs.declared.Mode.{Mode}
use Rattle.table.specs.declared.Decoded.{Decoded}
use Rattle.table.specs.Row.{Kind, none, Cycles, Row, row, gap, t1, read, states}
use Rattle.table.specs.Departures.{one_figure, needed, needed_behind}
use Rattle.table.specs.Plain.{plain}
use Rattle.table.specs.Cb.{cb}
use Rattle.table.specs.Ed.{ed}
use Rattle.table.specs.Decode.{is_prefix, row_of, operand_bytes, made, record_of, four, ed_alone}
use Rattle.table.specs.Chip.{chip_row_of, reading_of, decode_in}
use Rattle.table.specs.Consequences.{Keeps}
use Rattle.table.proofs.Pages.{both_left, both_right}
use Rattle.table.proofs.Rows.{Everywhere, mode_row_holds}
use Rattle.table.proofs.Done.{decides, decided}

-- each machine cycle has T-states
abbrev filled : List ℕ → Bool
filled [] = true
filled (t ∷ ts) = ltb 0 t && filled ts

abbrev timed : List ℕ → Bool
timed ts = ltb 0 (length ts) && (leb (length ts) 6 && filled ts)

-- the least is no more than the most, and both are 4 to 23
abbrev bounded : ℕ → ℕ → Bool
bounded low high = leb 4 low && (leb low high && leb high 23)

-- length 1 to 4, one to six machine cycles, each with T-states, row times of 4 to 23, over the bytes s behind the code
abbrev sized : List ℕ → Row → Bool
sized s gap = true
sized s (row i x y z n t) =
    leb 1 n && (leb n 4 && (timed (one_figure t) && bounded (least_of i (read x s) (sum (six (states (one_figure t))))).0 (most_of i (sum (six (states (one_figure t))))).0))

abbrev Sized : Row → Type 0
Sized x = (s : List ℕ) → T (sized s x)

all_sized : (s : List ℕ) → Everywhere (sized s)
unfolding plain cb ed sum
all_sized s =
    record {
      none = tt;
      on_plain = tt;
      on_cb = tt;
      on_ed = tt;
      behind_plain = λ i. tt;
      behind_ed = λ i. tt;
      load = λ i. tt;
      no_bit = λ i. tt;
      on_bit = λ i. tt;
      chip_none = (tt, tt);
      chip_plain = λ i. tt;
      chip_ed = tt;
    }

row_sized : (m : Mode) (s : List ℕ) → Sized ((reading_of m).row s)
row_sized m s bytes = mode_row_holds (sized bytes) (all_sized bytes) m s

length_states : (ts : List ℕ) → length (states ts) ≡ length ts
length_states [] = refl
length_states (t ∷ ts) = ap suc (length_states ts)

state : (ts : List ℕ) (k : ℕ) → (get_or (states ts) k unfilled).0 ≡ get_or ts k 0
state [] k = refl
state (t ∷ ts) zero = refl
state (t ∷ ts) (suc k) = state ts k

place : (l : List TStates) → length l ≤ 6 → (k : ℕ) → get_or (six l) k unfilled ≡ get_or l k unfilled
place l h zero = refl
place l h (suc zero) = refl
place l h (suc (suc zero)) = refl
place l h (suc (suc (suc zero))) = refl
place l h (suc (suc (suc (suc zero)))) = refl
place l h (suc (suc (suc (suc (suc zero))))) = refl
place l h (suc (suc (suc (suc (suc (suc k)))))) = sym (get_or-eq_default l unfilled (omega arith))

fill : (ts : List ℕ) → T (filled ts) → (k : ℕ) → k < length ts → 0 < get_or ts k 0
fill [] f k h = absurd (omega arith)
fill (t ∷ ts) f zero h = ltb→lt 0 t (both_left (ltb 0 t) (filled ts) f)
fill (t ∷ ts) f (suc k) h = fill ts (both_right (ltb 0 t) (filled ts) f) k (le_of_suc-le-suc h)

made_keeps : (ins : Instruction) (x y z : Kind) (n : ℕ) (t : Cycles) (s d : List ℕ) (g : ℕ) → Sized (row ins x y z n t) → n ≤ g → Keeps g (made ins x y z n t s d)
made_keeps ins x y z n t s d g w h =
    let ts = one_figure t in
    let low = (least_of ins (read x s) (sum (six (states ts)))).0 in
    let high = (most_of ins (sum (six (states ts)))).0 in
    let w1 = both_right (leb 1 n) _ (w s) in
    let w2 = both_right (leb n 4) _ w1 in
    let w3 = both_left (timed ts) _ w2 in
    let w4 = both_right (ltb 0 (length ts)) _ w3 in
    let w5 = both_right (timed ts) (bounded low high) w2 in
    let w6 = both_right (leb 4 low) _ w5 in
    let some : 0 < length ts = ltb→lt 0 (length ts) (both_left (ltb 0 (length ts)) _ w3) in
    let six_most : length ts ≤ 6 = leb→le (length ts) 6 (both_left (leb (length ts) 6) _ w4) in
    let room : length (states ts) ≤ 6 = rw (length_states ts) six_most in
    record {
      length_least = leb→le 1 n (both_left (leb 1 n) _ (w s));
      length_most = leb→le n 4 (both_left (leb n 4) _ w1);
      length_given = h;
      cycles_least = some;
      cycles_most = six_most;
      places = refl;
      first_filled = λ k q. subst (λ (m : ℕ). 0 < m) (sym (ap (λ (u : TStates). u.0) (place (states ts) room k) ∙ state ts k)) (fill ts (both_right (leb (length ts) 6) _ w4) k q);
      rest_zero = λ k q. place (states ts) room k ∙ get_or-eq_default (states ts) unfilled (rw (length_states ts) q);
      time_least = leb→le 4 low (both_left (leb 4 low) _ w5);
      time_apart = leb→le low high (both_left (leb low high) _ w6);
      time_most = leb→le high 23 (both_right (leb low high) _ w6);
      time_told = refl;
    }

record_keeps : (x : Row) → Sized x → (s d : List ℕ) (g : ℕ) → (record_of x s d).length.0 ≤ g → Keeps g (record_of x s d)
unfolding sum
record_keeps gap w s d g h = made_keeps Instruction.NOP none none none 1 (t1 4) s d g (λ b. tt) h
record_keeps (row ins x y z n t) w s d g h = made_keeps ins x y z n t s d g w h

-- four bytes decide any row, and a row is no longer than the bytes that decide it
row_needs : (x : Row) → Sized x → needed x ≤ 4
row_needs gap w = omega arith
row_needs (row ins x y z n t) w = leb→le n 4 (both_left (leb n 4) _ (both_right (leb 1 n) _ (w [])))

row_length : (x : Row) (s d : List ℕ) → (record_of x s d).length.0 ≤ needed x
row_length gap s d = omega arith
row_length (row ins x y z n t) s d = omega arith

rust_most : (b c : Bool) (n : ℕ) → n ≤ 4 → needed_behind b (cond c 2 n) ≤ 4
rust_most true c n h = omega arith
rust_most false true n h = omega arith
rust_most false false n h = h

chip_most : (b c : Bool) (n : ℕ) → n ≤ 4 → cond b (cond c n 2) n ≤ 4
chip_most true true n h = h
chip_most true false n h = omega arith
chip_most false c n h = h

pub needed_at_most : (m : Mode) (s : List ℕ) → (reading_of m).needed s ≤ 4
needed_at_most Mode.Rust s = rust_most (is_prefix (get_or s 0 0)) (ed_alone s) (needed (row_of s)) (row_needs (row_of s) (row_sized Mode.Rust s))
needed_at_most Mode.Chip s = let x = chip_row_of s in chip_most (is_prefix (get_or s 0 0)) (ltb 2 (needed x)) (needed x) (row_needs x (row_sized Mode.Chip s))

-- the bytes that decide a row hold it whole; ED alone decides none
rust_whole : (b c : Bool) (l n : ℕ) → n ≤ 4 → (c ≡ true → l ≡ 1) → needed_behind b (cond c 2 n) ≤ l → n ≤ l
rust_whole true c l n h one fits = omega arith
rust_whole false true l n h one fits = absurd (omega (arith, one refl))
rust_whole false false l n h one fits = fits

chip_whole : (b c : Bool) (l n : ℕ) → ltb 2 n ≡ c → cond b (cond c n 2) n ≤ l → n ≤ l
chip_whole true true l n q fits = fits
chip_whole true false l n q fits = omega (arith, ltb-false 2 n q)
chip_whole false c l n q fits = fits

ed_one : (s : List ℕ) → ed_alone s ≡ true → length s ≡ 1
ed_one s = by_test (eqb (length s) 1) refl
  where
    by_test : (b : Bool) → eqb (length s) 1 ≡ b → (b && eqb (get_or s 0 0) 0xED) ≡ true → length s ≡ 1
    by_test true q e = eqb-true (length s) 1 q
    by_test false q e = absurd (true≢false (sym e))

pub whole : (m : Mode) (s : List ℕ) → (reading_of m).needed s ≤ length s → needed ((reading_of m).row s) ≤ length s
whole Mode.Rust s fits = rust_whole (is_prefix (get_or s 0 0)) (ed_alone s) (length s) (needed (row_of s)) (row_needs (row_of s) (row_sized Mode.Rust s)) (ed_one s) fits
whole Mode.Chip s fits = chip_whole (is_prefix (get_or s 0 0)) (ltb 2 (needed (chip_row_of s))) (length s) (needed (chip_row_of s)) refl fits

pub sizes : (m : Mode) (s : List ℕ) → (decode_in m s).answer ≡ Answer.Done → Keeps (length s) (decode_in m s).rec
unfolding decode_in
sizes m s e =
    let w = decides (reading_of m) s e in
    let x = (reading_of m).row s in
    subst (λ (o : OpCode). Keeps (length s) o) (sym (ap (λ (u : Decoded). u.rec) w.made))
    (record_keeps x (row_sized m s) (operand_bytes s) (four s) (length s) (le_trans (row_length x (operand_bytes s) (four s)) (whole m s w.enough)))

-- four bytes are never refused
pub four_decide : (m : Mode) (s : List ℕ) → length s ≡ 4 → (decode_in m s).answer ≡ Answer.Done
unfolding decode_in
four_decide m s e = ap (λ (u : Decoded). u.answer) (decided (reading_of m) s (omega arith) (omega arith) (le_trans (needed_at_most m s) (omega arith)))
