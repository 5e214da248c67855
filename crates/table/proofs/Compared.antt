-- The two modes side by side, row by row.
-- Assumes nothing.
use mathlib.Core.Path.{◌≡◌, refl, sym, ap, subst, ◌∙◌}
use mathlib.Core.Bool.{Bool, true, false, cond, ◌||◌, true≢false}
use mathlib.Core.List.{List}
use Prim.Native.Nat.{ℕ, ◌<◌}
use lib.Dec.{eqb, ltb}
use lib.ListN.{get_or}
use borrow.Author.Tests.{eqb-true}
use Rattle.table.specs.declared.Mode.{Mode}
use Rattle.table.specs.Row.{Index, ix, iy, Row, row, gap}
use Rattle.table.specs.Departures.{late}
use Rattle.table.specs.Plain.{plain}
use Rattle.table.specs.Cb.{cb}
use Rattle.table.specs.Ed.{ed}
use Rattle.table.specs.Prefix.{behind_row, bit_row}
use Rattle.table.specs.Decode.{is_prefix, page_row, row_of}
use Rattle.table.specs.Chip.{idle, defined, chip_behind, chip_row_of}
use Rattle.table.specs.Consequences.{values, AllBytes, first, second}
use Rattle.table.specs.Steps.{named}
use Rattle.table.specs.Modes.{idles, rust_behind, Compared}
use Rattle.table.proofs.Upto.{agree}
use Rattle.table.proofs.Pages.{chosen, otherwise}
use Rattle.table.proofs.Answers.{unprefixed}
use Rattle.table.proofs.ChipShort.{chip_row, row_needed}
use Rattle.table.proofs.Modes.{modes_agree}

-- the rows behind a prefix
module _ (i : Index) (b2 b3 : ℕ) where
  abbrev rust_at : ℕ → Row
  rust_at b = rust_behind i b b2 (chip_behind i b b3)

  behind_lines : values (λ (b : ℕ). cond (eqb b 0xCB) gap (behind_row i b b2 b3)) 0 256 ≡ values (λ (b : ℕ). cond (eqb b 0xCB) gap (rust_at b)) 0 256
  unfolding plain behind_row chip_behind
  behind_lines = refl

  idle_lines : values (λ (b : ℕ). cond (idles b) (chip_behind i b b3) idle) 0 256 ≡ values (λ (b : ℕ). idle) 0 256
  unfolding plain chip_behind
  idle_lines = refl

  -- no bit row's first two cycles differ
  late_bit : (x : Row) → bit_row i b3 x ≡ late (bit_row i b3 x)
  late_bit gap = refl
  late_bit (row ins x y z n t) = chosen (λ (r : Row). r ≡ late r) (ltb b3 0x40) _ _ refl (chosen (λ (r : Row). r ≡ late r) (ltb b3 0x80) _ _ refl refl)

  at_cb : behind_row i 0xCB b2 b3 ≡ rust_at 0xCB
  unfolding behind_row chip_behind plain
  at_cb = late_bit (get_or cb b3 gap)

  behind_rows : (b1 : ℕ) → b1 < 256 → behind_row i b1 b2 b3 ≡ rust_at b1
  behind_rows b1 fits = by_cb (eqb b1 0xCB) refl
    where
      by_cb : (b : Bool) → eqb b1 0xCB ≡ b → behind_row i b1 b2 b3 ≡ rust_at b1
      by_cb true q = subst (λ (b : ℕ). behind_row i b b2 b3 ≡ rust_at b) (sym (eqb-true b1 0xCB q)) at_cb
      by_cb false q =
          otherwise (eqb b1 0xCB) gap (behind_row i b1 b2 b3) (rust_at b1) q
          (agree (λ (b : ℕ). cond (eqb b 0xCB) gap (behind_row i b b2 b3)) (λ (b : ℕ). cond (eqb b 0xCB) gap (rust_at b)) gap 256 behind_lines b1 fits)

  idle_rows : (b1 : ℕ) → b1 < 256 → idles b1 ≡ true → chip_behind i b1 b3 ≡ idle
  idle_rows b1 fits q = rw q at (agree (λ (b : ℕ). cond (idles b) (chip_behind i b b3) idle) (λ (b : ℕ). idle) gap 256 idle_lines b1 fits)

module _ (s : List ℕ) (q : is_prefix (first s) ≡ true) where
  rust_prefixed : row_of s ≡ behind_row (named (first s)) (second s) (get_or s 2 0) (get_or s 3 0)
  unfolding row_of
  rust_prefixed = by_index (eqb (first s) 0xDD) (eqb (first s) 0xFD) q
    where
      by_index :
          (a b : Bool) → (a || b) ≡ true
          → cond a (behind_row ix (second s) (get_or s 2 0) (get_or s 3 0)) (cond b (behind_row iy (second s) (get_or s 2 0) (get_or s 3 0)) (page_row (first s) (second s)))
          ≡ behind_row (cond a ix iy) (second s) (get_or s 2 0) (get_or s 3 0)
      by_index true b e = refl
      by_index false true e = refl
      by_index false false e = absurd (true≢false (sym e))

  chip_prefixed_lem : chip_row_of s ≡ chip_behind (named (first s)) (second s) (get_or s 3 0)
  unfolding chip_row_of
  chip_prefixed_lem = by_index (eqb (first s) 0xDD) (eqb (first s) 0xFD) q
    where
      by_index :
          (a b : Bool) → (a || b) ≡ true
          → cond a (chip_behind ix (second s) (get_or s 3 0)) (cond b (chip_behind iy (second s) (get_or s 3 0)) (cond (eqb (first s) 0xED) (defined (get_or ed (second s) gap)) (page_row (first s) (second s))))
          ≡ chip_behind (cond a ix iy) (second s) (get_or s 3 0)
      by_index true b e = refl
      by_index false true e = refl
      by_index false false e = absurd (true≢false (sym e))

-- no prefix in front
else_row : (s : List ℕ) → is_prefix (first s) ≡ false → chip_row_of s ≡ cond (eqb (first s) 0xED) (defined (row_of s)) (row_of s)
else_row s q = by_ed (eqb (first s) 0xED) refl
  where
    by_ed : (b : Bool) → eqb (first s) 0xED ≡ b → chip_row_of s ≡ cond b (defined (row_of s)) (row_of s)
    by_ed true e =
        let no : eqb (first s) 0xCB ≡ false = ap (λ (b : ℕ). eqb b 0xCB) (eqb-true (first s) 0xED e) in
        let page : row_of s ≡ get_or ed (second s) gap = unprefixed Mode.Rust s q ∙ rw (no, e) in
        unprefixed Mode.Chip s q ∙ rw (no, e) (ap defined (sym page))
    by_ed false e =
        let page : row_of s ≡ cond (eqb (first s) 0xCB) (get_or cb (second s) gap) (get_or plain (first s) gap) = unprefixed Mode.Rust s q ∙ rw e in
        unprefixed Mode.Chip s q ∙ rw e (sym page)

-- on which bytes the modes agree, and how their rows differ elsewhere
pub modes_compared : (s : List ℕ) → AllBytes s → Compared s
modes_compared s all =
    let own = row_needed (chip_row_of s) (chip_row s all) in
    record {
      agree = modes_agree s all;
      rust_behind_lem = λ q. rw (chip_prefixed_lem s q) (rust_prefixed s q ∙ behind_rows (named (first s)) (get_or s 2 0) (get_or s 3 0) (second s) (all 1));
      chip_idle = λ q e. chip_prefixed_lem s q ∙ idle_rows (named (first s)) (get_or s 2 0) (get_or s 3 0) (second s) (all 1) e;
      rust_needs = λ q. rw q;
      chip_needs = λ q. rw (q, own);
      chip_else = else_row s;
      chip_else_needs = λ q. rw q own;
    }
