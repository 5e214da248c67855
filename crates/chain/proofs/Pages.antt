-- The rows that no prefix leads: one test over the lines of each page, for any number of bytes.
-- Assumes nothing.
use mathlib.Core.Path.{◌≡◌, refl, ap}
use mathlib.Core.Bool.{Bool, true, false, cond, ◌&&◌, ◌||◌, true≢false}
use mathlib.Core.List.{List, [], ◌∷◌, map}
use Prim.Native.Nat.{ℕ, zero, suc, ◌-◌, ◌<◌, ◌/◌, ◌%◌}
use lib.Dec.{eqb, ltb}
use lib.ListN.{length, drop, get_or}
use borrow.Author.Tests.{eqb-true}
use Rattle.table.specs.declared.Decoded.{Decoded}
use Rattle.table.specs.Row.{Row, gap}
use Rattle.table.specs.Departures.{needed}
use Rattle.table.specs.Plain.{plain}
use Rattle.table.specs.Cb.{cb}
use Rattle.table.specs.Ed.{ed}
use Rattle.table.specs.Decode.{is_prefix, page_row, record_of, ed_alone, short, done}
use Rattle.table.specs.Consequences.{values, AllBytes, first, second}
use Rattle.table.proofs.Upto.{agree}
use Rattle.table.proofs.Pages.{chosen, otherwise}
use Rattle.packed.specs.Named.{instruction_at, reg8_at, reg16_at, condition_at}
use Rattle.packed.specs.Packed.{packed, read_kind, kind_at, record_from}
use Rattle.chain.specs.Chain.{nop, whole_of, whole_ed, chain_of}

-- f at each code, but z where t tells otherwise
abbrev pub but : {A : Type 0} → (ℕ → Bool) → A → (ℕ → A) → List A
but t z f = values (λ (b : ℕ). cond (t b) z (f b)) 0 256

pub by_code : {A : Type 0} (t : ℕ → Bool) (z : A) (f g : ℕ → A) → but t z f ≡ but t z g → (b : ℕ) → b < 256 → t b ≡ false → f b ≡ g b
by_code t z f g same b fits q = otherwise (t b) z (f b) (g b) q (agree (λ (k : ℕ). cond (t k) z (f k)) (λ (k : ℕ). cond (t k) z (g k)) z 256 same b fits)

abbrev pub every : ℕ → Bool
every b = false

-- CB and ED, which have a page of their own
abbrev pub leads : ℕ → Bool
leads b = eqb b 0xCB || eqb b 0xED

-- two functions that agree on the lines of a page, and where there is none, agree at every code
pub by_line : {A : Type 0} (f g : Row → A) (page : List Row) → map f page ≡ map g page → f gap ≡ g gap → (k : ℕ) → f (get_or page k gap) ≡ g (get_or page k gap)
by_line f g [] e none k = none
by_line {A} f g (x ∷ xs) e none zero = ap (λ (l : List A). get_or l 0 (f gap)) e
by_line {A} f g (x ∷ xs) e none (suc k) = by_line f g xs (ap (λ (l : List A). drop 1 l) e) none k

-- what the number r answers to n bytes, s behind the code, and the data d; 0 is no row
abbrev pub by_number : ℕ → List ℕ → List ℕ → ℕ → Decoded
by_number n s d r =
    let need = cond (eqb r 0) 4 (r / 0x100000000 % 16) in
    cond (ltb n need) (short (need - n)) (done (record_from (cond (eqb r 0) nop r) s d))

-- what the row r of the table answers to them
abbrev pub by_row : ℕ → List ℕ → List ℕ → Row → Decoded
by_row n s d r = cond (ltb n (needed r)) (short (needed r - n)) (done (record_of r s d))

module _ (n : ℕ) (s d : List ℕ) where
  abbrev numbers : Row → Decoded
  numbers r = by_number n s d (packed r)

  abbrev rows : Row → Decoded
  rows r = by_row n s d r

  none_same : numbers gap ≡ rows gap
  unfolding packed kind_at read_kind instruction_at
  none_same = refl

  plain_same : map numbers plain ≡ map rows plain
  unfolding plain packed kind_at read_kind instruction_at reg8_at reg16_at condition_at
  plain_same = refl

  cb_same : map numbers cb ≡ map rows cb
  unfolding cb packed kind_at read_kind instruction_at reg8_at reg16_at condition_at
  cb_same = refl

  ed_same : map numbers ed ≡ map rows ed
  unfolding ed packed kind_at read_kind instruction_at reg8_at reg16_at condition_at
  ed_same = refl

  pub page_same : (b0 b1 : ℕ) → numbers (page_row b0 b1) ≡ rows (page_row b0 b1)
  unfolding page_row
  page_same b0 b1 =
      chosen (λ (r : Row). numbers r ≡ rows r) (eqb b0 0xCB) _ _ (by_line numbers rows cb cb_same none_same b1)
      (chosen (λ (r : Row). numbers r ≡ rows r) (eqb b0 0xED) _ _ (by_line numbers rows ed ed_same none_same b1) (by_line numbers rows plain plain_same none_same b0))

-- the plain page has a row at every byte but CB, ED, DD and FD, and the CB page at every byte
plain_some : but (λ (b : ℕ). leads b || is_prefix b) false (λ (b : ℕ). eqb (packed (get_or plain b gap)) 0) ≡ but (λ (b : ℕ). leads b || is_prefix b) false (λ (b : ℕ). false)
unfolding plain packed
plain_some = refl

cb_some : but every false (λ (b : ℕ). eqb (packed (get_or cb b gap)) 0) ≡ but every false (λ (b : ℕ). false)
unfolding cb packed
cb_some = refl

row_whole : (r n : ℕ) → eqb r 0 ≡ false → whole_of r n ≡ whole_ed r n
unfolding whole_ed
row_whole r n e = rw e

more : (b : Bool) → (b && true) ≡ false → b ≡ false
more true e = absurd (true≢false e)
more false e = refl

-- without a prefix the chain gives the number of the page's row
pub chain_page : (p : ℕ) (s : List ℕ) → AllBytes s → is_prefix (first s) ≡ false → ed_alone s ≡ false → chain_of p s ≡ whole_ed (packed (page_row (first s) (second s))) (length s)
unfolding chain_of page_row
chain_page p s bytes q alone = by_tests (eqb (first s) 0xCB) (eqb (first s) 0xED) refl refl
  where
    by_tests : (u v : Bool) → eqb (first s) 0xCB ≡ u → eqb (first s) 0xED ≡ v → chain_of p s ≡ whole_ed (packed (page_row (first s) (second s))) (length s)
    by_tests true v e f =
        let f' : eqb (first s) 0xED ≡ false = ap (λ (b : ℕ). eqb b 0xED) (eqb-true (first s) 0xCB e) in
        rw (q, f', e) (row_whole _ _ (by_code every false (λ (b : ℕ). eqb (packed (get_or cb b gap)) 0) every cb_some (second s) (bytes 1) refl))
    by_tests false true e f = rw (q, f, e, more (eqb (length s) 1) (rw f at alone))
    by_tests false false e f =
        rw (q, f, e)
        (row_whole _ _ (by_code (λ (b : ℕ). leads b || is_prefix b) false (λ (b : ℕ). eqb (packed (get_or plain b gap)) 0) every plain_some (first s) (bytes 0) (rw (e, f, q))))
