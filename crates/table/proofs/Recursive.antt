-- Decoding by steps, each handing the rest to the next, and filling the row times at the end, gives what the table says.
-- Assumes nothing.
use mathlib.Core.Path.{◌≡◌, refl, sym, ap, subst, ◌∙◌}
use mathlib.Core.Bool.{Bool, true, false, cond, ◌||◌, true≢false}
use mathlib.Core.List.{List, [], ◌∷◌, map}
use Prim.Native.Nat.{ℕ, zero, suc, ◌-◌, ◌<◌, ◌≤◌}
use native.Mathlib.Omega.{arith}
use lib.Dec.{eqb, ltb}
use lib.ListN.{length, drop, get_or, get_or-map}
use borrow.Author.Tests.{lt-ltb, le-ltb, eqb-true}
use Rattle.opcode.specs.declared.record.OpCode.{OpCode}
use Rattle.opcode.specs.Record.{empty_of}
use Rattle.opcode.specs.Times.{retimed}
use Rattle.opcode.specs.Timing.{written, inserted, removed, may_insert, may_extend, may_remove, insert_of, push_of, remove_of}
use Rattle.table.specs.declared.Answer.{Answer}
use Rattle.table.specs.declared.Decoded.{Decoded}
use Rattle.table.specs.Row.{Index, ix, iy, Row, row, gap}
use Rattle.table.specs.Departures.{needed, ed_behind}
use Rattle.table.specs.Plain.{plain}
use Rattle.table.specs.Ed.{ed}
use Rattle.table.specs.Prefix.{prefix_row, behind_row}
use Rattle.table.specs.Decode.{is_prefix, page_row, row_of, operand_bytes, record_of, four, needed_of, refused, short, done, decode_of}
use Rattle.table.specs.Consequences.{values, AllBytes, first}
use Rattle.table.specs.Steps.{untimed, behind, named, step, reading, filled}
use Rattle.table.proofs.Upto.{agree}
use Rattle.table.proofs.Pages.{otherwise}
use Rattle.table.proofs.Done.{verdict}
use Rattle.table.proofs.Answers.{page_row_lem}

-- below four bytes it does not matter what the rest decodes to
few : (r q : Decoded) (s d : List ℕ) → length s < 4 → step r s d ≡ step q s d
unfolding step
few r q s d fits = rw (lt-ltb (length s) 4 fits)

few_reading : (k : ℕ) (s d : List ℕ) → length s < 4 → reading k s d ≡ step (refused Answer.Nothing) s d
unfolding reading
few_reading zero s d fits = refl
few_reading (suc k) s d fits = few (reading k (drop 1 s) d) (refused Answer.Nothing) s d fits

-- behind the prefix: the ED page line by line, and every other byte code by code
module _ (b2 b3 : ℕ) (d : List ℕ) where
  abbrev rest : ℕ → Decoded
  rest b1 = step (refused Answer.Nothing) (b1 ∷ b2 ∷ b3 ∷ []) d

  abbrev rest_ed : Row → Decoded
  rest_ed x = cond (ltb 3 (needed x)) (short (needed x - 3)) (done (untimed (record_of x (b3 ∷ []) d)))

  ed_lines : (i : Index) → map (λ (x : Row). behind (rest_ed x) i 0xED b2 b3 d) ed ≡ map (λ (x : Row). untimed (record_of (prefix_row i (ed_behind x)) (b2 ∷ b3 ∷ []) d)) ed
  unfolding ed may_insert may_extend may_remove insert_of push_of remove_of written inserted removed
  ed_lines i = refl

  plain_lines :
      (i : Index) → values (λ (b1 : ℕ). cond (eqb b1 0xED) empty_of (behind (rest b1) i b1 b2 b3 d)) 0 256
      ≡ values (λ (b1 : ℕ). cond (eqb b1 0xED) empty_of (untimed (record_of (behind_row i b1 b2 b3) (b2 ∷ b3 ∷ []) d))) 0 256
  unfolding plain step page_row row_of behind_row may_insert may_extend may_remove insert_of push_of remove_of written inserted removed
  plain_lines i = refl

  ed_agrees : (i : Index) → behind (rest_ed (get_or ed b2 gap)) i 0xED b2 b3 d ≡ untimed (record_of (prefix_row i (ed_behind (get_or ed b2 gap))) (b2 ∷ b3 ∷ []) d)
  unfolding may_extend push_of written
  ed_agrees i =
      sym (get_or-map (λ (x : Row). behind (rest_ed x) i 0xED b2 b3 d) ed b2 gap)
      ∙ ap (λ (l : List OpCode). get_or l b2 (untimed (record_of gap (b2 ∷ b3 ∷ []) d))) (ed_lines i)
      ∙ get_or-map (λ (x : Row). untimed (record_of (prefix_row i (ed_behind x)) (b2 ∷ b3 ∷ []) d)) ed b2 gap

  behind_agrees : (i : Index) (b1 : ℕ) → b1 < 256 → behind (rest b1) i b1 b2 b3 d ≡ untimed (record_of (behind_row i b1 b2 b3) (b2 ∷ b3 ∷ []) d)
  unfolding step page_row row_of behind_row
  behind_agrees i b1 fits = by_ed (eqb b1 0xED) refl
    where
      by_ed : (b : Bool) → eqb b1 0xED ≡ b → behind (rest b1) i b1 b2 b3 d ≡ untimed (record_of (behind_row i b1 b2 b3) (b2 ∷ b3 ∷ []) d)
      by_ed true q = subst (λ (b : ℕ). behind (rest b) i b b2 b3 d ≡ untimed (record_of (behind_row i b b2 b3) (b2 ∷ b3 ∷ []) d)) (sym (eqb-true b1 0xED q)) (ed_agrees i)
      by_ed false q =
          otherwise (eqb b1 0xED) empty_of (behind (rest b1) i b1 b2 b3 d) (untimed (record_of (behind_row i b1 b2 b3) (b2 ∷ b3 ∷ []) d)) q
          (agree
          (λ (b : ℕ). cond (eqb b 0xED) empty_of (behind (rest b) i b b2 b3 d))
          (λ (b : ℕ). cond (eqb b 0xED) empty_of (untimed (record_of (behind_row i b b2 b3) (b2 ∷ b3 ∷ []) d))) empty_of 256 (plain_lines i) b1 fits)

-- the table's rule with the data d, before the row times are filled
abbrev tabled : List ℕ → List ℕ → Decoded
tabled s d = verdict (eqb (length s) 0) (ltb 4 (length s)) (ltb (length s) (needed_of s)) (needed_of s - length s) (untimed (record_of (row_of s) (operand_bytes s) d))

-- no prefix in front
page_agrees : (r : Decoded) (s d : List ℕ) → length s ≤ 4 → is_prefix (first s) ≡ false → step r s d ≡ tabled s d
unfolding step
page_agrees r s d most q = rw (q, page_row_lem s q, le-ltb 4 (length s) most)

prefix_row_lem : (b0 b1 b2 b3 : ℕ) → is_prefix b0 ≡ true → row_of (b0 ∷ b1 ∷ b2 ∷ b3 ∷ []) ≡ behind_row (named b0) b1 b2 b3
unfolding row_of
prefix_row_lem b0 b1 b2 b3 = by_tests (eqb b0 0xDD) (eqb b0 0xFD)
  where
    by_tests :
        (a b : Bool) → (a || b) ≡ true
        → cond a (behind_row ix b1 b2 b3) (cond b (behind_row iy b1 b2 b3) (page_row b0 b1)) ≡ behind_row (cond a ix iy) b1 b2 b3
    by_tests true b q = refl
    by_tests false true q = refl
    by_tests false false q = absurd (true≢false (sym q))

-- a prefix in front: four bytes, or too few
prefix_agrees : (k : ℕ) (s d : List ℕ) → AllBytes s → length s ≤ 4 → is_prefix (first s) ≡ true → step (reading k (drop 1 s) d) s d ≡ tabled s d
unfolding step
prefix_agrees k [] d bytes most q = refl
prefix_agrees k (b0 ∷ []) d bytes most q = rw q
prefix_agrees k (b0 ∷ b1 ∷ []) d bytes most q = rw q
prefix_agrees k (b0 ∷ b1 ∷ b2 ∷ []) d bytes most q = rw q
prefix_agrees k (b0 ∷ b1 ∷ b2 ∷ b3 ∷ []) d bytes most q =
    rw q
    (ap (λ (r : Decoded). done (behind r (named b0) b1 b2 b3 d)) (few_reading k (b1 ∷ b2 ∷ b3 ∷ []) d (omega arith))
    ∙ ap done (behind_agrees b2 b3 d (named b0) b1 (bytes 1))
    ∙ ap (λ (x : Row). done (untimed (record_of x (b2 ∷ b3 ∷ []) d))) (sym (prefix_row_lem b0 b1 b2 b3 q)))
prefix_agrees k (b0 ∷ b1 ∷ b2 ∷ b3 ∷ b4 ∷ s) d bytes most q = absurd (omega arith)

-- what is filled in is what the table has
filled_row : (x : Row) (s d : List ℕ) → retimed (untimed (record_of x s d)) ≡ record_of x s d
filled_row gap s d = refl
filled_row (row i x y z n t) s d = refl

filled_verdict : (a b c : Bool) (k : ℕ) (x : Row) (s d : List ℕ) → filled (verdict a b c k (untimed (record_of x s d))) ≡ verdict a b c k (record_of x s d)
filled_verdict true b c k x s d = refl
filled_verdict false true c k x s d = refl
filled_verdict false false true k x s d = refl
filled_verdict false false false k x s d = ap done (filled_row x s d)

-- on up to four bytes the steps give what the table says, however many are allowed
pub steps_agree : (k : ℕ) (s : List ℕ) → AllBytes s → length s ≤ 4 → filled (reading (suc k) s (four s)) ≡ decode_of s
unfolding reading decode_of
steps_agree k s bytes most =
    ap filled (by_prefix_lem (is_prefix (first s)) refl)
    ∙ filled_verdict (eqb (length s) 0) (ltb 4 (length s)) (ltb (length s) (needed_of s)) (needed_of s - length s) (row_of s) (operand_bytes s) (four s)
  where
    by_prefix_lem : (b : Bool) → is_prefix (first s) ≡ b → step (reading k (drop 1 s) (four s)) s (four s) ≡ tabled s (four s)
    by_prefix_lem true q = prefix_agrees k s (four s) bytes most q
    by_prefix_lem false q = page_agrees (reading k (drop 1 s) (four s)) s (four s) most q
