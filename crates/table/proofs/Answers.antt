-- The answer is Nothing or Long exactly when document 01's table of numbers says so, in either mode, and Short where fewer bytes are there than are needed; in the Rust's mode these are the bytes that decide no row.
-- Assumes nothing.
use mathlib.Core.Path.{◌≡◌, refl, sym, ap, subst, ◌∙◌}
use mathlib.Core.Logic.{◌⊎◌, inl, inr, ⊎_elim, ◌↔◌}
use mathlib.Core.Bool.{Bool, true, false, cond, ◌&&◌, ◌||◌, true≢false}
use mathlib.Core.List.{List}
use Prim.Native.Nat.{ℕ, ◌-◌, ◌<◌, ◌≤◌}
use native.Mathlib.Omega.{arith}
use lib.Dec.{T, eqb, ltb, ltb→lt}
use lib.ListN.{length, get_or}
use borrow.Author.Tests.{eqb-true, eqb-false, ltb-true, ltb-false, eq-eqb, ne_eqb, lt-ltb, le-ltb}
use Rattle.opcode.specs.declared.record.OpCode.{OpCode}
use Rattle.opcode.specs.Record.{empty_of}
use Rattle.table.specs.declared.Answer.{Answer}
use Rattle.table.specs.declared.Mode.{Mode}
use Rattle.table.specs.Row.{Row, row, gap}
use Rattle.table.specs.Departures.{needed, needed_behind}
use Rattle.table.specs.Plain.{plain}
use Rattle.table.specs.Cb.{cb}
use Rattle.table.specs.Ed.{ed}
use Rattle.table.specs.Decode.{number_of, outcome, told_by, is_prefix, page_row, row_of, operand_bytes, record_of, four, ed_alone, needed_of, decode_of}
use Rattle.table.specs.Chip.{defined, chip_row_of, reading_of, decode_in, outcome_in}
use Rattle.table.specs.Modes.{is_gap}
use Rattle.table.specs.Consequences.{values, AllBytes, first, second, Undefined, Alone, length_of, Cut, TooFew, NothingWhen, LongWhen, Below}
use Rattle.table.proofs.Upto.{agree}
use Rattle.table.proofs.Pages.{every, at_code}
use Rattle.table.proofs.Done.{verdict, tells_nothing, tells_long, tells_short, tells_refused}
use Rattle.table.proofs.Sizes.{needed_at_most}

either : (a b : Bool) → (a || b) ≡ true → (a ≡ true) ⊎ (b ≡ true)
either true b e = inl refl
either false b e = inr e

pub neither : (a b : Bool) → (a || b) ≡ false → (a ≡ false) × (b ≡ false)
neither true b e = absurd (true≢false e)
neither false b e = (refl, e)

pub prefixed : (b : ℕ) → is_prefix b ≡ true → (b ≡ 0xDD) ⊎ (b ≡ 0xFD)
prefixed b e = ⊎_elim (λ t. inl (eqb-true b 0xDD t)) (λ t. inr (eqb-true b 0xFD t)) (either (eqb b 0xDD) (eqb b 0xFD) e)

pub is_prefixed : (b : ℕ) → (b ≡ 0xDD) ⊎ (b ≡ 0xFD) → is_prefix b ≡ true
is_prefixed b (inl e) = rw e
is_prefixed b (inr e) = rw e

-- with no prefix in front the row is the page's
pub page_row_lem : (s : List ℕ) → is_prefix (first s) ≡ false → row_of s ≡ page_row (first s) (second s)
unfolding row_of
page_row_lem s e = let n = neither (eqb (first s) 0xDD) (eqb (first s) 0xFD) e in rw (n.0, n.1)

-- a row of the ED page in a mode
abbrev pub ed_row : Mode → Row → Row
ed_row Mode.Rust x = x
ed_row Mode.Chip x = defined x

-- with no prefix in front a row is the page's, in either mode
pub unprefixed :
    (m : Mode) (s : List ℕ) → is_prefix (first s) ≡ false
    → (reading_of m).row s ≡ cond (eqb (first s) 0xCB) (get_or cb (second s) gap) (cond (eqb (first s) 0xED) (ed_row m (get_or ed (second s) gap)) (get_or plain (first s) gap))
unfolding page_row chip_row_of
unprefixed Mode.Rust s e = page_row_lem s e
unprefixed Mode.Chip s e = by_ed (eqb (first s) 0xED) refl
  where
    n : (eqb (first s) 0xDD ≡ false) × (eqb (first s) 0xFD ≡ false)
    n = neither (eqb (first s) 0xDD) (eqb (first s) 0xFD) e

    by_ed :
        (b : Bool) → eqb (first s) 0xED ≡ b
        → chip_row_of s ≡ cond (eqb (first s) 0xCB) (get_or cb (second s) gap) (cond (eqb (first s) 0xED) (defined (get_or ed (second s) gap)) (get_or plain (first s) gap))
    by_ed true q =
        let no : eqb (first s) 0xCB ≡ false = ap (λ (b : ℕ). eqb b 0xCB) (eqb-true (first s) 0xED q) in
        rw (n.0, n.1, q, no)
    by_ed false q = rw (n.0, n.1, q)

-- the plain page has a row at every byte but CB, ED, DD and FD, and the CB page at every byte
pub plain_gaps : values (λ (b : ℕ). is_gap (get_or plain b gap)) 0 256 ≡ values (λ (b : ℕ). eqb b 0xCB || (eqb b 0xED || is_prefix b)) 0 256
unfolding plain
plain_gaps = refl

pub cb_full : values (λ (b : ℕ). is_gap (get_or cb b gap)) 0 256 ≡ values (λ (b : ℕ). false) 0 256
unfolding cb
cb_full = refl

-- two bytes of code: no row of CB or ED is shorter, and a gap needs four
abbrev pub two : Row → Bool
two x = ltb 1 (needed x)

pub cb_two : T (every two cb)
unfolding cb
cb_two = tt

pub ed_two : T (every two ed)
unfolding ed
ed_two = tt

-- a byte without a row is an undefined ED code, if it is no prefix
no_row : (b0 b1 : ℕ) → b0 < 256 → b1 < 256 → page_row b0 b1 ≡ gap → is_prefix b0 ≡ false → (b0 ≡ 0xED) × (get_or ed b1 gap ≡ gap)
unfolding page_row
no_row b0 b1 h0 h1 e p = by_first (eqb b0 0xCB) (eqb b0 0xED) refl refl e
  where
    by_first : (c d : Bool) → eqb b0 0xCB ≡ c → eqb b0 0xED ≡ d → cond c (get_or cb b1 gap) (cond d (get_or ed b1 gap) (get_or plain b0 gap)) ≡ gap → (b0 ≡ 0xED) × (get_or ed b1 gap ≡ gap)
    by_first true d q q' g = absurd (true≢false (ap is_gap (sym g) ∙ agree (λ (b : ℕ). is_gap (get_or cb b gap)) (λ (b : ℕ). false) true 256 cb_full b1 h1))
    by_first false true q q' g = (eqb-true b0 0xED q', g)
    by_first false false q q' g =
        absurd (true≢false (ap is_gap (sym g) ∙ agree (λ (b : ℕ). is_gap (get_or plain b gap)) (λ (b : ℕ). eqb b 0xCB || (eqb b 0xED || is_prefix b)) true 256 plain_gaps b0 h0 ∙ rw (q, q', p)))

-- ED with its code yet to come
pub ed_alone_lem : (s : List ℕ) → ed_alone s ≡ true → (length s ≡ 1) × (first s ≡ 0xED)
ed_alone_lem s = by_test (eqb (length s) 1) refl
  where
    by_test : (b : Bool) → eqb (length s) 1 ≡ b → (b && eqb (first s) 0xED) ≡ true → (length s ≡ 1) × (first s ≡ 0xED)
    by_test true q e = (eqb-true (length s) 1 q, eqb-true (first s) 0xED e)
    by_test false q e = absurd (true≢false (sym e))

gap_or_cut : (x : Row) (n : ℕ) → n < needed x → (x ≡ gap) ⊎ (n < length_of x)
gap_or_cut gap n h = inl refl
gap_or_cut (row i x y z m t) n h = inr h

cut_needed : (x : Row) (n : ℕ) → n < length_of x → n < needed x
cut_needed gap n h = absurd (omega arith)
cut_needed (row i x y z m t) n h = h

module _ (s : List ℕ) (bytes : AllBytes s) (some : 1 ≤ length s) (few : length s ≤ 3) where
  too_few : length s < needed_of s → TooFew Mode.Rust s
  too_few = by_prefix_lem (is_prefix (first s)) refl
    where
      undefined_or_alone : (first s ≡ 0xED) × (get_or ed (second s) gap ≡ gap) → Undefined s ⊎ (Alone s ⊎ Cut s)
      undefined_or_alone g = by_count (ltb 1 (length s)) refl
        where
          by_count : (b : Bool) → ltb 1 (length s) ≡ b → Undefined s ⊎ (Alone s ⊎ Cut s)
          by_count true q = inl (ltb-true 1 (length s) q, g.0, g.1)
          by_count false q = inr (inl (omega (arith, ltb-false 1 (length s) q), inr g.0))

      by_prefix_lem : (b : Bool) → is_prefix (first s) ≡ b → length s < needed_behind b (cond (ed_alone s) 2 (needed (row_of s))) → TooFew Mode.Rust s
      by_prefix_lem true q h = inl (prefixed (first s) q)
      by_prefix_lem false q h = by_alone (ed_alone s) refl h
        where
          by_alone : (c : Bool) → ed_alone s ≡ c → length s < cond c 2 (needed (row_of s)) → TooFew Mode.Rust s
          by_alone true a h = let t = ed_alone_lem s a in inr (inr (inl (t.0, inr t.1)))
          by_alone false a h =
              ⊎_elim
              (λ g. inr (undefined_or_alone (no_row (first s) (second s) (bytes 0) (bytes 1) (sym (page_row_lem s q) ∙ g) q)))
              (λ c. inr (inr (inr (subst (λ (x : Row). length s < length_of x) (page_row_lem s q) c))))
              (gap_or_cut (row_of s) (length s) h)

  -- too few for the page's row are too few for any that begins so
  page_needed : is_prefix (first s) ≡ false → length s < needed (page_row (first s) (second s)) → length s < needed_of s
  page_needed q h = by_alone (ed_alone s) refl
    where
      by_alone : (c : Bool) → ed_alone s ≡ c → length s < needed_of s
      by_alone true a = rw (q, a) (omega (arith, (ed_alone_lem s a).0))
      by_alone false a = rw (q, a, page_row_lem s q) h

  by_page : Undefined s ⊎ (Alone s ⊎ Cut s) → length s < needed (page_row (first s) (second s))
  unfolding page_row
  by_page (inl u) = rw (u.1, u.2) (omega arith)
  by_page (inr (inl (one, inl e))) = rw (e, one) (ltb→lt 1 (needed (get_or cb (second s) gap)) (at_code two cb cb_two tt (second s)))
  by_page (inr (inl (one, inr e))) = rw (e, one) (ltb→lt 1 (needed (get_or ed (second s) gap)) (at_code two ed ed_two tt (second s)))
  by_page (inr (inr cut)) = cut_needed (page_row (first s) (second s)) (length s) cut

  is_few : TooFew Mode.Rust s → length s < needed_of s
  is_few = by_prefix_lem (is_prefix (first s)) refl
    where
      by_prefix_lem : (b : Bool) → is_prefix (first s) ≡ b → TooFew Mode.Rust s → length s < needed_of s
      by_prefix_lem true q w = rw q (omega arith)
      by_prefix_lem false q (inl p) = absurd (true≢false (sym (is_prefixed (first s) p) ∙ q))
      by_prefix_lem false q (inr w) = page_needed q (by_page w)

  pub rust_few : (length s < needed_of s) ↔ TooFew Mode.Rust s
  rust_few = (too_few, is_few)

tells_numbers : (k : ℕ) (r : OpCode) (none over under : Bool) → told_by (verdict none over under k r) ≡ cond none (outcome 1 0 empty_of) (cond over (outcome 3 0 empty_of) (cond under (outcome 2 k empty_of) (outcome 0 0 r)))
tells_numbers k r true over under = refl
tells_numbers k r false true under = refl
tells_numbers k r false false true = refl
tells_numbers k r false false false = refl

-- the answers of either mode
module _ (m : Mode) (s : List ℕ) where
  abbrev found : OpCode
  found = record_of ((reading_of m).row s) (operand_bytes s) (four s)

  abbrev lacks : ℕ
  lacks = (reading_of m).needed s - length s

  abbrev none : Bool
  none = eqb (length s) 0

  abbrev over : Bool
  over = ltb 4 (length s)

  abbrev under : Bool
  under = ltb (length s) ((reading_of m).needed s)

  by_tests : (decode_in m s).answer ≡ (verdict none over under lacks found).answer
  unfolding decode_in
  by_tests = refl

  -- in document 01's numbers
  pub told_in : told_by (decode_in m s) ≡ outcome_in m s
  unfolding decode_in
  told_in = tells_numbers lacks found none over under

  -- a refused decode returns the empty record
  pub refused_empty : ((decode_in m s).answer ≡ Answer.Done → ⊥) → (decode_in m s).rec ≡ empty_of
  unfolding decode_in
  refused_empty n = tells_refused lacks found none over under n

  -- 1, Nothing: no bytes
  pub nothing_exactly : ((decode_in m s).answer ≡ Answer.Nothing) ↔ NothingWhen s
  nothing_exactly = (
    λ e. eqb-true (length s) 0 (tells_nothing lacks found none over under (sym by_tests ∙ e)),
    λ h. by_tests ∙ rw (eq-eqb (length s) 0 h),
  )

  -- 3, Long: over four bytes
  pub long_exactly : ((decode_in m s).answer ≡ Answer.Long) ↔ LongWhen s
  long_exactly = (
    λ e. ltb-true 4 (length s) (tells_long lacks found none over under (sym by_tests ∙ e)),
    λ h. by_tests ∙ rw (ne_eqb (length s) 0 (λ e. omega arith), lt-ltb 4 (length s) h),
  )

  -- 2, Short: one to three bytes, fewer than are needed
  pub short_below : (number_of (decode_in m s).answer ≡ 2) ↔ Below (reading_of m) s
  short_below = (to, from)
    where
      to : number_of (decode_in m s).answer ≡ 2 → Below (reading_of m) s
      to e =
          let f = tells_short lacks found none over under (ap number_of (sym by_tests) ∙ e) in
          let n = eqb-false (length s) 0 f.0 in
          let less = ltb-true (length s) ((reading_of m).needed s) f.2 in
          (omega arith, omega (arith, needed_at_most m s), less)

      from : Below (reading_of m) s → number_of (decode_in m s).answer ≡ 2
      from (some, few, less) =
          ap number_of by_tests
          ∙ rw (ne_eqb (length s) 0 (λ e. omega arith), le-ltb 4 (length s) (omega arith), lt-ltb (length s) ((reading_of m).needed s) less)

-- the Rust's mode is the table of demand 2
pub rust_mode : (s : List ℕ) → decode_in Mode.Rust s ≡ decode_of s
unfolding decode_in decode_of
rust_mode s = refl
