-- The two modes agree exactly where `agrees` says so.
-- Assumes nothing.
use mathlib.Core.Path.{◌≡◌, refl, sym, ap, subst, ◌∙◌}
use mathlib.Core.Logic.{⊎_elim, ◌↔◌}
use mathlib.Core.Bool.{Bool, true, false, cond, not, ◌&&◌, ◌||◌, true≢false}
use mathlib.Core.List.{List, [], ◌∷◌}
use Prim.Native.Nat.{ℕ, ◌+◌, ◌*◌, ◌-◌, ◌<◌, ◌≤◌}
use native.Mathlib.Omega.{arith}
use lib.Dec.{eqb, ltb}
use lib.ListN.{length, get_or}
use borrow.Author.Tests.{eqb-true, ltb-true, ltb-false, lt-ltb, le-ltb, ne_eqb, eq-eqb}
use Rattle.opcode.specs.declared.counts.TStates.{TStates}
use Rattle.opcode.specs.declared.operand.Place.{Place}
use Rattle.opcode.specs.Record.{sum}
use Rattle.table.specs.declared.Answer.{Answer}
use Rattle.table.specs.declared.Decoded.{Decoded}
use Rattle.table.specs.declared.Mode.{Mode}
use Rattle.table.specs.Row.{Index, ix, iy, Row, row, gap}
use Rattle.table.specs.Departures.{needed}
use Rattle.table.specs.Plain.{plain}
use Rattle.table.specs.Cb.{cb}
use Rattle.table.specs.Ed.{ed}
use Rattle.table.specs.Prefix.{behind_row, bit_row}
use Rattle.table.specs.Decode.{number_of, missing_of, is_prefix, page_row, row_of, refused, short}
use Rattle.table.specs.Chip.{defined, chip_behind, chip_row_of, reading_of, decode_in}
use Rattle.table.specs.Consequences.{values, AllBytes, first, second}
use Rattle.table.specs.Modes.{is_gap, alike, alike_ed, agrees_behind, agrees_upto4, agrees}
use Rattle.table.proofs.Upto.{agree}
use Rattle.table.proofs.Done.{decided, undecided}
use Rattle.table.proofs.Sizes.{needed_at_most}
use Rattle.table.proofs.Answers.{prefixed, unprefixed}
use Rattle.table.proofs.Decided.{bit_needs}

-- what tells two records apart: the length, which operands there are, the cycles
abbrev there : Place → ℕ
there Place.Empty = 0
there (Place.Of o) = 1

abbrev figure : List TStates → ℕ
figure [] = 0
figure (t ∷ ts) = t.0 + 32 * figure ts

abbrev shape : Decoded → ℕ
shape d = d.rec.length.0 + 8 * (there d.rec.op1 + 2 * (there d.rec.op2 + 2 * (there d.rec.op3 + 2 * figure d.rec.tstates)))

-- where t holds both agree, and elsewhere they differ in shape
record Told (t : ℕ → Bool) (f : ℕ → List ℕ) : Type 0 where
  pub alike_there : values (λ (b : ℕ). cond (t b) (decode_in Mode.Chip (f b)) (refused Answer.Nothing)) 0 256 ≡ values (λ (b : ℕ). cond (t b) (decode_in Mode.Rust (f b)) (refused Answer.Nothing)) 0 256
  pub apart : values (λ (b : ℕ). cond (t b) false (eqb (shape (decode_in Mode.Chip (f b))) (shape (decode_in Mode.Rust (f b))))) 0 256 ≡ values (λ (b : ℕ). false) 0 256

by_told : (t : ℕ → Bool) (f : ℕ → List ℕ) → Told t f → (b : ℕ) → b < 256 → (decode_in Mode.Chip (f b) ≡ decode_in Mode.Rust (f b)) ↔ (t b ≡ true)
by_told t f told b fits = (to (t b) refl, from)
  where
    to : (c : Bool) → t b ≡ c → decode_in Mode.Chip (f b) ≡ decode_in Mode.Rust (f b) → t b ≡ true
    to true q e = q
    to false q e =
        let d = agree (λ (k : ℕ). cond (t k) false (eqb (shape (decode_in Mode.Chip (f k))) (shape (decode_in Mode.Rust (f k))))) (λ (k : ℕ). false) true 256 told.apart b fits in
        absurd (true≢false (sym (eq-eqb _ _ (ap shape e)) ∙ (rw q at d)))

    from : t b ≡ true → decode_in Mode.Chip (f b) ≡ decode_in Mode.Rust (f b)
    from q =
        let d = agree (λ (k : ℕ). cond (t k) (decode_in Mode.Chip (f k)) (refused Answer.Nothing)) (λ (k : ℕ). cond (t k) (decode_in Mode.Rust (f k)) (refused Answer.Nothing)) (refused Answer.Nothing) 256 told.alike_there b fits in
        rw q at d

abbrev alike_at : ℕ → Bool
alike_at b = alike (get_or plain b gap)

-- four bytes behind a prefix; CB, whose rows are the same, and ED have pages of their own
abbrev plain_at : ℕ → Bool
plain_at b = cond (eqb b 0xED) true (cond (eqb b 0xCB) true (alike_at b))

abbrev laid : ℕ → ℕ → ℕ → ℕ → List ℕ
laid p b2 b3 b = cond (eqb b 0xED) [] (cond (eqb b 0xCB) [] (p ∷ b ∷ b2 ∷ b3 ∷ []))

record Four (p b2 b3 : ℕ) : Type 0 where
  pub on_plain : Told plain_at (laid p b2 b3)
  pub on_ed : Told (λ (b : ℕ). alike_ed (get_or ed b gap)) (λ (b : ℕ). p ∷ 0xED ∷ b ∷ b3 ∷ [])

dd_four : (b2 b3 : ℕ) → Four 0xDD b2 b3
unfolding decode_in row_of behind_row page_row plain ed chip_row_of chip_behind sum
dd_four b2 b3 = record { on_plain = record { alike_there = refl; apart = refl }; on_ed = record { alike_there = refl; apart = refl } }

fd_four : (b2 b3 : ℕ) → Four 0xFD b2 b3
unfolding decode_in row_of behind_row page_row plain ed chip_row_of chip_behind sum
fd_four b2 b3 = record { on_plain = record { alike_there = refl; apart = refl }; on_ed = record { alike_there = refl; apart = refl } }

abbrev Claim : List ℕ → Type 0
Claim s = (decode_in Mode.Chip s ≡ decode_in Mode.Rust s) ↔ (agrees_upto4 s ≡ true)

-- what both give with as many bytes as there are
module _ (m : Mode) (s : List ℕ) (some : 1 ≤ length s) (most : length s ≤ 4) where
  abbrev need : ℕ
  need = (reading_of m).needed s

  lacks : length s < need → decode_in m s ≡ short (need - length s)
  unfolding decode_in
  lacks less = undecided (reading_of m) s some most less

  is_done : need ≤ length s → number_of (decode_in m s).answer ≡ 0
  unfolding decode_in
  is_done enough = ap (λ (d : Decoded). number_of d.answer) (decided (reading_of m) s some most enough)

larger_four : (c : Bool) (n : ℕ) → cond c n 2 ≡ 4 → n ≡ 4
larger_four true n e = e
larger_four false n e = absurd (omega arith)

larger_most : (c : Bool) (n k : ℕ) → ltb 2 n ≡ c → n ≡ 4 → cond c n 2 ≡ 4
larger_most true n k q e = e
larger_most false n k q e = absurd (omega (arith, ltb-false 2 n q))

-- two or three bytes behind a prefix
module _ (s : List ℕ) (p : is_prefix (first s) ≡ true) (two : 2 ≤ length s) (three : length s ≤ 3) where
  abbrev row_needs : ℕ
  row_needs = needed (chip_row_of s)

  some : 1 ≤ length s
  some = omega arith

  most : length s ≤ 4
  most = omega arith

  rust_lacks : decode_in Mode.Rust s ≡ short (4 - length s)
  rust_lacks =
      let four : (reading_of Mode.Rust).needed s ≡ 4 = rw p in
      lacks Mode.Rust s some most (omega arith) ∙ ap (λ (n : ℕ). short (n - length s)) four

  chip_needs : (reading_of Mode.Chip).needed s ≡ cond (ltb 2 row_needs) row_needs 2
  chip_needs = rw p

  few_agree : (decode_in Mode.Chip s ≡ decode_in Mode.Rust s) ↔ (eqb row_needs 4 ≡ true)
  few_agree = (λ e. eq-eqb row_needs 4 (larger_four (ltb 2 row_needs) row_needs (sym chip_needs ∙ by_count (ltb (length s) ((reading_of Mode.Chip).needed s)) refl e)), from)
    where
      by_count : (b : Bool) → ltb (length s) ((reading_of Mode.Chip).needed s) ≡ b → decode_in Mode.Chip s ≡ decode_in Mode.Rust s → (reading_of Mode.Chip).needed s ≡ 4
      by_count true q e =
          let less = ltb-true (length s) ((reading_of Mode.Chip).needed s) q in
          let same = ap (λ (d : Decoded). missing_of d.answer) (sym (lacks Mode.Chip s some most less) ∙ e ∙ rust_lacks) in
          omega (arith, needed_at_most Mode.Chip s)
      by_count false q e =
          let done = is_done Mode.Chip s some most (ltb-false (length s) ((reading_of Mode.Chip).needed s) q) in
          let same = ap (λ (d : Decoded). number_of d.answer) (e ∙ rust_lacks) in
          absurd (omega arith)

      from : eqb row_needs 4 ≡ true → decode_in Mode.Chip s ≡ decode_in Mode.Rust s
      from q =
          let four : (reading_of Mode.Chip).needed s ≡ 4 = chip_needs ∙ larger_most (ltb 2 row_needs) row_needs 0 refl (eqb-true row_needs 4 q) in
          lacks Mode.Chip s some most (omega arith) ∙ ap (λ (n : ℕ). short (n - length s)) four ∙ sym rust_lacks

-- behind each prefix
record Behind (p : ℕ) : Type 0 where
  pub one : Claim (p ∷ [])
  pub two : (b1 : ℕ) → Claim (p ∷ b1 ∷ [])
  pub three : (b1 b2 : ℕ) → Claim (p ∷ b1 ∷ b2 ∷ [])
  pub four : (b1 b2 b3 : ℕ) → b1 < 256 → b2 < 256 → Claim (p ∷ b1 ∷ b2 ∷ b3 ∷ [])

three_one : (d e : Decoded) → missing_of d.answer ≡ 1 → missing_of e.answer ≡ 3 → d ≡ e → ⊥
three_one d e p q same = omega (arith, ap (λ (u : Decoded). missing_of u.answer) same)

-- four bytes: CB, ED and any other byte behind the prefix
module _ (p : ℕ) (b1 b2 b3 : ℕ) (h1 : b1 < 256) (h2 : b2 < 256) (told : Four p b2 b3) where
  cb_agree : is_prefix p ≡ true → decode_in Mode.Chip (p ∷ 0xCB ∷ b2 ∷ b3 ∷ []) ≡ decode_in Mode.Rust (p ∷ 0xCB ∷ b2 ∷ b3 ∷ []) → Claim (p ∷ 0xCB ∷ b2 ∷ b3 ∷ [])
  unfolding agrees_upto4 agrees_behind plain
  cb_agree q e = (λ d. rw q, λ d. e)

  four_agree : is_prefix p ≡ true → decode_in Mode.Chip (p ∷ 0xCB ∷ b2 ∷ b3 ∷ []) ≡ decode_in Mode.Rust (p ∷ 0xCB ∷ b2 ∷ b3 ∷ []) → Claim (p ∷ b1 ∷ b2 ∷ b3 ∷ [])
  unfolding agrees_upto4 agrees_behind
  four_agree q e = by_tests (eqb b1 0xED) (eqb b1 0xCB) refl refl
    where
      by_tests : (u v : Bool) → eqb b1 0xED ≡ u → eqb b1 0xCB ≡ v → Claim (p ∷ b1 ∷ b2 ∷ b3 ∷ [])
      by_tests true v x y = rw (eqb-true b1 0xED x) (rw q (by_told (λ (b : ℕ). alike_ed (get_or ed b gap)) (λ (b : ℕ). p ∷ 0xED ∷ b ∷ b3 ∷ []) told.on_ed b2 h2))
      by_tests false true x y = rw (eqb-true b1 0xCB y) (cb_agree q e)
      by_tests false false x y = rw (q, x) (rw (x, y) at (by_told plain_at (laid p b2 b3) told.on_plain b1 h1))

bit_agree : (i : Index) (p b2 b3 : ℕ) → is_prefix p ≡ true → row_of (p ∷ 0xCB ∷ b2 ∷ b3 ∷ []) ≡ bit_row i b3 (get_or cb b3 gap) → chip_row_of (p ∷ 0xCB ∷ b2 ∷ b3 ∷ []) ≡ bit_row i b3 (get_or cb b3 gap) → decode_in Mode.Chip (p ∷ 0xCB ∷ b2 ∷ b3 ∷ []) ≡ decode_in Mode.Rust (p ∷ 0xCB ∷ b2 ∷ b3 ∷ [])
unfolding decode_in
bit_agree i p b2 b3 q r c = rw (q, c, r, bit_needs i b3 (get_or cb b3 gap))

dd_agree : Behind 0xDD
unfolding decode_in row_of behind_row chip_row_of chip_behind plain agrees_upto4 agrees_behind
dd_agree =
    record {
      one = (λ e. absurd (three_one _ _ refl refl e), λ e. absurd (true≢false (sym e)));
      two = λ b1. few_agree (0xDD ∷ b1 ∷ []) refl (omega arith) (omega arith);
      three = λ b1 b2. few_agree (0xDD ∷ b1 ∷ b2 ∷ []) refl (omega arith) (omega arith);
      four = λ b1 b2 b3 h1 h2. four_agree 0xDD b1 b2 b3 h1 h2 (dd_four b2 b3) refl (bit_agree ix 0xDD b2 b3 refl refl refl);
    }

fd_agree : Behind 0xFD
unfolding decode_in row_of behind_row chip_row_of chip_behind plain agrees_upto4 agrees_behind
fd_agree =
    record {
      one = (λ e. absurd (three_one _ _ refl refl e), λ e. absurd (true≢false (sym e)));
      two = λ b1. few_agree (0xFD ∷ b1 ∷ []) refl (omega arith) (omega arith);
      three = λ b1 b2. few_agree (0xFD ∷ b1 ∷ b2 ∷ []) refl (omega arith) (omega arith);
      four = λ b1 b2 b3 h1 h2. four_agree 0xFD b1 b2 b3 h1 h2 (fd_four b2 b3) refl (bit_agree iy 0xFD b2 b3 refl refl refl);
    }

-- no prefix in front
module _ (s : List ℕ) (q : is_prefix (first s) ≡ false) where
  alone_not : (a b : Bool) → b ≡ false → (a && b) ≡ false
  alone_not true b e = e
  alone_not false b e = refl

  none_undefined : (a b c : Bool) → b ≡ false → not (a && (b && c)) ≡ true
  none_undefined true b c e = rw e
  none_undefined false b c e = refl

  -- another byte than ED
  pub else_agree : eqb (first s) 0xED ≡ false → decode_in Mode.Chip s ≡ decode_in Mode.Rust s
  unfolding decode_in
  else_agree f =
      let same : chip_row_of s ≡ row_of s = unprefixed Mode.Chip s q ∙ rw f (sym (unprefixed Mode.Rust s q ∙ rw f)) in
      rw (q, same, alone_not (eqb (length s) 1) (eqb (first s) 0xED) f)

  plain_agree : eqb (first s) 0xED ≡ false → Claim s
  unfolding agrees_upto4
  plain_agree f = (λ e. rw q (none_undefined (ltb 1 (length s)) (eqb (first s) 0xED) (is_gap (get_or ed (second s) gap)) f), λ e. else_agree f)

-- ED with its code
module _ (b1 : ℕ) (t : List ℕ) (few : length (0xED ∷ b1 ∷ t) ≤ 4) where
  abbrev bytes : List ℕ
  bytes = 0xED ∷ b1 ∷ t

  more : ltb 1 (length bytes) ≡ true
  more = lt-ltb 1 (length bytes) (omega arith)

  not_alone : eqb (length bytes) 1 ≡ false
  not_alone = ne_eqb (length bytes) 1 (λ e. omega arith)

  chip_row : chip_row_of bytes ≡ defined (get_or ed b1 gap)
  unfolding chip_row_of
  chip_row = refl

  rust_row : row_of bytes ≡ get_or ed b1 gap
  unfolding row_of page_row
  rust_row = refl

  -- an undefined one: Done of length 2 in the chip's mode; Short, or Done of length 1, in the Rust's
  undefined_apart : get_or ed b1 gap ≡ gap → decode_in Mode.Chip bytes ≡ decode_in Mode.Rust bytes → ⊥
  unfolding decode_in
  undefined_apart g e = by_count (ltb (length bytes) 4) refl
    where
      long : ltb 4 (length bytes) ≡ false
      long = le-ltb 4 (length bytes) few

      none : eqb (length bytes) 0 ≡ false
      none = ne_eqb (length bytes) 0 (λ z. omega arith)

      two : ltb (length bytes) 2 ≡ false
      two = le-ltb (length bytes) 2 (omega arith)

      chip_is : (decode_in Mode.Chip bytes).rec.length.0 ≡ 2
      chip_is = rw (chip_row, g, none, long, two)

      by_count : (b : Bool) → ltb (length bytes) 4 ≡ b → ⊥
      by_count true c =
          let rust_is : (decode_in Mode.Rust bytes).rec.length.0 ≡ 0 = rw (not_alone, rust_row, g, none, long, c) in
          omega (arith, chip_is, ap (λ (d : Decoded). d.rec.length.0) e)
      by_count false c =
          let rust_is : (decode_in Mode.Rust bytes).rec.length.0 ≡ 1 = rw (not_alone, rust_row, g, none, long, c) in
          omega (arith, chip_is, ap (λ (d : Decoded). d.rec.length.0) e)

  defined_agree : (x : Row) → is_gap x ≡ false → defined x ≡ x
  defined_agree gap e = absurd (true≢false e)
  defined_agree (row i x y z n t) e = refl

  gap_is : (x : Row) → is_gap x ≡ true → x ≡ gap
  gap_is gap e = refl
  gap_is (row i x y z n t) e = absurd (true≢false (sym e))

  ed_agree : (b : Bool) → is_gap (get_or ed b1 gap) ≡ b → Claim bytes
  unfolding agrees_upto4 decode_in
  ed_agree true g = (λ e. absurd (undefined_apart (gap_is (get_or ed b1 gap) g) e), λ e. absurd (true≢false (sym e ∙ rw (more, g))))
  ed_agree false g = (λ e. rw (more, g), λ e. rw (not_alone, chip_row, rust_row, defined_agree (get_or ed b1 gap) g))

ed_alone_lem : Claim (0xED ∷ [])
unfolding agrees_upto4 decode_in row_of chip_row_of page_row ed
ed_alone_lem = (λ e. refl, λ e. refl)

ed_claims : (t : List ℕ) → length (0xED ∷ t) ≤ 4 → Claim (0xED ∷ t)
ed_claims [] few = ed_alone_lem
ed_claims (b1 ∷ t) few = ed_agree b1 t few (is_gap (get_or ed b1 gap)) refl

unprefixed_claims : (b0 : ℕ) (t : List ℕ) → length (b0 ∷ t) ≤ 4 → is_prefix b0 ≡ false → Claim (b0 ∷ t)
unprefixed_claims b0 t few q = by_ed (eqb b0 0xED) refl
  where
    by_ed : (b : Bool) → eqb b0 0xED ≡ b → Claim (b0 ∷ t)
    by_ed true e = subst (λ (b : ℕ). Claim (b ∷ t)) (sym (eqb-true b0 0xED e)) (ed_claims t few)
    by_ed false e = plain_agree (b0 ∷ t) q e

none_agree : Claim []
unfolding agrees_upto4 decode_in
none_agree = (λ e. refl, λ e. refl)

by_prefix_lem : (P : ℕ → Type 0) (b : ℕ) → P 0xDD → P 0xFD → (is_prefix b ≡ false → P b) → P b
by_prefix_lem P b x y other = by_test (is_prefix b) refl
  where
    by_test : (t : Bool) → is_prefix b ≡ t → P b
    by_test true q = ⊎_elim (λ e. subst P (sym e) x) (λ e. subst P (sym e) y) (prefixed b q)
    by_test false q = other q

upto4_agree : (s : List ℕ) → AllBytes s → length s ≤ 4 → Claim s
upto4_agree [] all most = none_agree
upto4_agree (b0 ∷ []) all most = by_prefix_lem (λ (b : ℕ). Claim (b ∷ [])) b0 dd_agree.one fd_agree.one (unprefixed_claims b0 [] most)
upto4_agree (b0 ∷ b1 ∷ []) all most = by_prefix_lem (λ (b : ℕ). Claim (b ∷ b1 ∷ [])) b0 (dd_agree.two b1) (fd_agree.two b1) (unprefixed_claims b0 (b1 ∷ []) most)
upto4_agree (b0 ∷ b1 ∷ b2 ∷ []) all most =
    by_prefix_lem (λ (b : ℕ). Claim (b ∷ b1 ∷ b2 ∷ [])) b0 (dd_agree.three b1 b2) (fd_agree.three b1 b2) (unprefixed_claims b0 (b1 ∷ b2 ∷ []) most)
upto4_agree (b0 ∷ b1 ∷ b2 ∷ b3 ∷ []) all most =
    by_prefix_lem (λ (b : ℕ). Claim (b ∷ b1 ∷ b2 ∷ b3 ∷ [])) b0 (dd_agree.four b1 b2 b3 (all 1) (all 2)) (fd_agree.four b1 b2 b3 (all 1) (all 2)) (unprefixed_claims b0 (b1 ∷ b2 ∷ b3 ∷ []) most)
upto4_agree (b0 ∷ b1 ∷ b2 ∷ b3 ∷ b4 ∷ s) all most = absurd (omega arith)

-- over four bytes both are Long
long_agree : (s : List ℕ) → 4 < length s → decode_in Mode.Chip s ≡ decode_in Mode.Rust s
unfolding decode_in
long_agree s h = rw (ne_eqb (length s) 0 (λ e. omega arith), lt-ltb 4 (length s) h)

-- answer and record, the number of missing bytes among it
pub modes_agree : (s : List ℕ) → AllBytes s → (decode_in Mode.Chip s ≡ decode_in Mode.Rust s) ↔ (agrees s ≡ true)
modes_agree s all = by_count (ltb 4 (length s)) refl
  where
    by_count : (b : Bool) → ltb 4 (length s) ≡ b → (decode_in Mode.Chip s ≡ decode_in Mode.Rust s) ↔ ((b || agrees_upto4 s) ≡ true)
    by_count true q = (λ e. refl, λ e. long_agree s (ltb-true 4 (length s) q))
    by_count false q = upto4_agree s all (ltb-false 4 (length s) q)
