-- What one to three bytes decide, added bytes up to four do not change but for data, in either mode.
-- Assumes nothing.
use mathlib.Core.Path.{◌≡◌, refl, sym, ap, subst, ◌∙◌}
use mathlib.Core.Bool.{Bool, true, false, cond, ◌&&◌, ◌||◌, true≢false}
use mathlib.Core.List.{List, ◌++◌}
use Prim.Native.Nat.{ℕ, ◌+◌, ◌<◌, ◌≤◌}
use native.Mathlib.Omega.{arith}
use native.Mathlib.Nat.{le_trans}
use lib.Dec.{T, eqb, ltb, leb, leb→le}
use borrow.Author.Tests.{eqb-true, eqb-false, ltb-true}
use lib.ListN.{length, drop, get_or, length-append, get_or-append}
use lib.Seq.{get_or-drop}
use Rattle.table.specs.declared.Answer.{Answer}
use Rattle.table.specs.declared.Decoded.{Decoded}
use Rattle.table.specs.declared.Mode.{Mode}
use Rattle.table.specs.Row.{Index, ix, iy, Kind, none, is, hl, h, l, at_hl, byte, word, at_word, at_port, rel, at_index, byte_behind, Row, row, gap, read}
use Rattle.table.specs.Departures.{needed}
use Rattle.table.specs.Plain.{plain}
use Rattle.table.specs.Cb.{cb}
use Rattle.table.specs.Ed.{ed}
use Rattle.table.specs.Prefix.{bit_row, ld_indexed}
use Rattle.table.specs.Decode.{is_prefix, row_of, operand_bytes, record_of, four, ed_alone, done}
use Rattle.table.specs.Chip.{idle, chip_prefixed, chip_behind, chip_row_of, reading_of, decode_in}
use Rattle.table.specs.Consequences.{first, second, with_data, Stays}
use Rattle.table.proofs.Pages.{both_left, both_right, every, at_code, chosen}
use Rattle.table.proofs.Done.{Decides, decides, decided}
use Rattle.table.proofs.Sizes.{whole}
use Rattle.table.proofs.Answers.{ed_row, unprefixed, ed_alone_lem}

-- how many of the bytes behind the code a kind reads
abbrev pub reach : Kind → ℕ
reach none = 0
reach (is o) = 0
reach hl = 0
reach h = 0
reach l = 0
reach at_hl = 0
reach byte = 1
reach word = 2
reach at_word = 2
reach at_port = 1
reach rel = 1
reach (at_index i) = 1
reach byte_behind = 2

-- a kind reads the same from lists that agree as far as it reads
read_same : (x : Kind) (u v : List ℕ) → ((k : ℕ) → k < reach x → get_or u k 0 ≡ get_or v k 0) → read x u ≡ read x v
read_same none u v e = refl
read_same (is o) u v e = refl
read_same hl u v e = refl
read_same h u v e = refl
read_same l u v e = refl
read_same at_hl u v e = refl
read_same byte u v e = rw (e 0 (omega arith))
read_same word u v e = rw (e 0 (omega arith), e 1 (omega arith))
read_same at_word u v e = rw (e 0 (omega arith), e 1 (omega arith))
read_same at_port u v e = rw (e 0 (omega arith))
read_same rel u v e = rw (e 0 (omega arith))
read_same (at_index i) u v e = rw (e 0 (omega arith))
read_same byte_behind u v e = rw (e 1 (omega arith))

-- behind c bytes of code a kind reads no byte past the length n
abbrev pub within : ℕ → ℕ → Kind → Bool
within c n x = cond (eqb (reach x) 0) true (leb (c + reach x) n)

abbrev pub inside : ℕ → Row → Bool
inside c gap = true
inside c (row i x y z n t) = within c n x && (within c n y && within c n z)

-- and all c bytes of code are among those that decide the row
abbrev pub coded : ℕ → Row → Bool
coded c x = leb c (needed x) && inside c x

plain_coded : T (every (coded 1) plain)
unfolding plain
plain_coded = tt

pub cb_coded : T (every (coded 2) cb)
unfolding cb
cb_coded = tt

pub ed_coded : (m : Mode) → T (every (λ (x : Row). coded 2 (ed_row m x)) ed) × T (coded 2 (ed_row m gap))
unfolding ed
ed_coded Mode.Rust = (tt, tt)
ed_coded Mode.Chip = (tt, tt)

chip_inside : (i : Index) → T (every (λ (x : Row). inside 2 (chip_prefixed i x)) plain)
unfolding plain
chip_inside i = tt

-- the record of a row whose c bytes of code, and what it reads behind them, are there
module _ (s t : List ℕ) (c : ℕ) where
  same : (n : ℕ) (x : Kind) → T (within c n x) → n ≤ length s → read x (drop c (s ++ t)) ≡ read x (drop c s)
  same n x w fits = read_same x (drop c (s ++ t)) (drop c s) (λ k q. get_or-drop c (s ++ t) k 0 ∙ get_or-append s t 0 (c + k) (there k q) ∙ sym (get_or-drop c s k 0))
    where
      there : (k : ℕ) → k < reach x → c + k < length s
      there k q = by_test (eqb (reach x) 0) refl w
        where
          by_test : (b : Bool) → eqb (reach x) 0 ≡ b → T (cond b true (leb (c + reach x) n)) → c + k < length s
          by_test true p v = absurd (omega (arith, eqb-true (reach x) 0 p))
          by_test false p v = omega (arith, leb→le (c + reach x) n v)

  row_same : (x : Row) → T (inside c x) → needed x ≤ length s → (d e : List ℕ) → record_of x (drop c (s ++ t)) d ≡ with_data (record_of x (drop c s) e) d
  row_same gap w fits d e = refl
  row_same (row i x y z n u) w fits d e =
      let w1 = both_right (within c n x) _ w in
      rw (same n x (both_left (within c n x) _ w) fits, same n y (both_left (within c n y) _ w1) fits, same n z (both_right (within c n y) _ w1) fits)

-- what is needed of more bytes with the same row
rust_still : (c : Bool) (n k : ℕ) → n ≤ k → (c ≡ true → 2 ≤ k) → cond c 2 n ≤ k
rust_still true n k fits two = two refl
rust_still false n k fits two = fits

chip_still : (c : Bool) (n k : ℕ) → n ≤ k → 2 ≤ k → cond c n 2 ≤ k
chip_still true n k fits two = fits
chip_still false n k fits two = two

chip_two : (c : Bool) (n k : ℕ) → ltb 2 n ≡ c → cond c n 2 ≤ k → 2 ≤ k
chip_two true n k q fits = omega (arith, ltb-true 2 n q)
chip_two false n k q fits = fits

-- four bytes decide a row behind DD CB
pub bit_needs : (i : Index) (c : ℕ) (x : Row) → needed (bit_row i c x) ≡ 4
bit_needs i c gap = refl
bit_needs i c (row ins x y z n t) = chosen (λ (r : Row). needed r ≡ 4) (ltb c 0x40) _ _ refl (chosen (λ (r : Row). needed r ≡ 4) (ltb c 0x80) _ _ refl refl)

module _ (m : Mode) (s t : List ℕ) (e : (decode_in m s).answer ≡ Answer.Done) (few : length s ≤ 3) (most : length (s ++ t) ≤ 4) where
  w : Decides (reading_of m) s
  unfolding decode_in
  w = decides (reading_of m) s e

  same_first : first (s ++ t) ≡ first s
  same_first = get_or-append s t 0 0 w.some

  longer : length s ≤ length (s ++ t)
  longer = omega (arith, length-append s t)

  -- the same row over the same bytes behind its code
  settled :
      (c : ℕ) (x : Row) → T (inside c x) → (reading_of m).row s ≡ x → (reading_of m).row (s ++ t) ≡ x → (reading_of m).needed (s ++ t) ≤ length (s ++ t)
      → operand_bytes s ≡ drop c s → operand_bytes (s ++ t) ≡ drop c (s ++ t) → Stays m s t
  unfolding decode_in
  settled c x inner r r' all o o' =
      let enough : needed x ≤ length s = subst (λ (y : Row). needed y ≤ length s) r (whole m s w.enough) in
      let before : (decode_in m s).rec ≡ record_of x (drop c s) (four s) = ap (λ (u : Decoded). u.rec) w.made ∙ rw (r, o) in
      decided (reading_of m) (s ++ t) (omega (arith, w.some, longer)) most all
      ∙ rw (r', o', before) (ap done (row_same s t c x inner enough (four (s ++ t)) (four s)))

  module _ (no-prefix : is_prefix (first s) ≡ false) where
    no_prefix_either : is_prefix (first (s ++ t)) ≡ false
    no_prefix_either = ap is_prefix same_first ∙ no-prefix

    still : (x : Row) → (reading_of m).row s ≡ x → (reading_of m).row (s ++ t) ≡ x → (ed_alone (s ++ t) ≡ true → 2 ≤ length (s ++ t)) → (reading_of m).needed (s ++ t) ≤ length (s ++ t)
    still x r r' two = by_mode m refl
      where
        fits : needed x ≤ length (s ++ t)
        fits = le_trans (subst (λ (y : Row). needed y ≤ length s) r (whole m s w.enough)) longer

        by_mode : (k : Mode) → m ≡ k → (reading_of m).needed (s ++ t) ≤ length (s ++ t)
        by_mode Mode.Rust q =
            let r'' : row_of (s ++ t) ≡ x = subst (λ (k : Mode). (reading_of k).row (s ++ t) ≡ x) q r' in
            subst (λ (k : Mode). (reading_of k).needed (s ++ t) ≤ length (s ++ t)) (sym q) (rw (no_prefix_either, r'') (rust_still (ed_alone (s ++ t)) (needed x) (length (s ++ t)) fits two))
        by_mode Mode.Chip q =
            let r'' : chip_row_of (s ++ t) ≡ x = subst (λ (k : Mode). (reading_of k).row (s ++ t) ≡ x) q r' in
            subst (λ (k : Mode). (reading_of k).needed (s ++ t) ≤ length (s ++ t)) (sym q) (rw (no_prefix_either, r'') fits)

    -- a code of two bytes: both are there, so the second is the same too
    two_bytes :
        (f : ℕ → Row) → ((y : ℕ) → T (coded 2 (f y))) → ((u : List ℕ) → first u ≡ first s → (reading_of m).row u ≡ f (second u)) → (eqb (first s) 0xCB || eqb (first s) 0xED) ≡ true
        → Stays m s t
    two_bytes f all here long =
        let x = f (second s) in
        let r = here s refl in
        let both : 2 ≤ length s = le_trans (leb→le 2 (needed x) (both_left (leb 2 (needed x)) _ (all (second s)))) (subst (λ (y : Row). needed y ≤ length s) r (whole m s w.enough)) in
        let r' : (reading_of m).row (s ++ t) ≡ x = here (s ++ t) same_first ∙ ap f (get_or-append s t 0 1 both) in
        settled 2 x (both_right (leb 2 (needed x)) _ (all (second s))) r r' (still x r r' (λ q. le_trans both longer)) (rw (no-prefix, long)) (rw (same_first, no-prefix, long))

    by_page : (a b : Bool) → eqb (first s) 0xCB ≡ a → eqb (first s) 0xED ≡ b → Stays m s t
    by_page true b p q =
        two_bytes (λ (y : ℕ). get_or cb y gap) (λ y. at_code (coded 2) cb cb_coded tt y)
        (λ u f. unprefixed m u (ap is_prefix f ∙ no-prefix) ∙ rw (f, p)) (rw p)
    by_page false true p q =
        two_bytes (λ (y : ℕ). ed_row m (get_or ed y gap)) (λ y. at_code (λ (x : Row). coded 2 (ed_row m x)) ed (ed_coded m).0 (ed_coded m).1 y)
        (λ u f. unprefixed m u (ap is_prefix f ∙ no-prefix) ∙ rw (f, p, q)) (rw (p, q))
    by_page false false p q =
        let x = get_or plain (first s) gap in
        let r : (reading_of m).row s ≡ x = unprefixed m s no-prefix ∙ rw (p, q) in
        let r' : (reading_of m).row (s ++ t) ≡ x = unprefixed m (s ++ t) no_prefix_either ∙ rw (same_first, p, q) in
        settled 1 x (both_right (leb 1 (needed x)) _ (at_code (coded 1) plain plain_coded tt (first s))) r r'
        (still x r r' (λ a. absurd (omega (arith, eqb-false (first s) 0xED q (sym same_first ∙ (ed_alone_lem (s ++ t) a).1)))))
        (rw (no-prefix, p, q))
        (rw (same_first, no-prefix, p, q))

-- behind a prefix: in the Rust's mode four bytes decide, in the chip's as many as the row has, of which CB's have four
module _ (s t : List ℕ) (few : length s ≤ 3) (most : length (s ++ t) ≤ 4) (p : is_prefix (first s) ≡ true) where
  rust_none : (decode_in Mode.Rust s).answer ≡ Answer.Done → ⊥
  rust_none e = absurd (omega (arith, rw p at (w Mode.Rust s t e few most).enough))

  module _ (e : (decode_in Mode.Chip s).answer ≡ Answer.Done) (i : Index) (here : (u : List ℕ) → first u ≡ first s → chip_row_of u ≡ chip_behind i (second u) (get_or u 3 0)) where
    enough : needed (chip_row_of s) ≤ length s
    enough = whole Mode.Chip s (w Mode.Chip s t e few most).enough

    both : 2 ≤ length s
    both = chip_two (ltb 2 (needed (chip_row_of s))) (needed (chip_row_of s)) (length s) refl (rw p at (w Mode.Chip s t e few most).enough)

    same_second : second (s ++ t) ≡ second s
    same_second = get_or-append s t 0 1 both

    by_cb : (b : Bool) → eqb (second s) 0xCB ≡ b → Stays Mode.Chip s t
    unfolding chip_behind
    by_cb true q =
        let bits : chip_row_of s ≡ bit_row i (get_or s 3 0) (get_or cb (get_or s 3 0) gap) = here s refl ∙ rw q in
        let cut : needed (chip_row_of s) ≡ 4 = ap needed bits ∙ bit_needs i (get_or s 3 0) (get_or cb (get_or s 3 0) gap) in
        absurd (omega (arith, enough))
    by_cb false q =
        let x = cond (eqb (second s) 0xEB) idle (cond (eqb (second s) 0x36) (ld_indexed i) (chip_prefixed i (get_or plain (second s) gap))) in
        let inner : T (inside 2 x) =
        chosen (λ (r : Row). T (inside 2 r)) (eqb (second s) 0xEB) _ _ tt (chosen (λ (r : Row). T (inside 2 r)) (eqb (second s) 0x36) _ _ tt (at_code (λ (r : Row). inside 2 (chip_prefixed i r)) plain (chip_inside i) tt (second s))) in
        let f = same_first Mode.Chip s t e few most in
        let r : chip_row_of s ≡ x = here s refl ∙ rw q in
        let r' : chip_row_of (s ++ t) ≡ x = here (s ++ t) f ∙ rw (same_second, q) in
        let fits : needed x ≤ length (s ++ t) = le_trans (subst (λ (y : Row). needed y ≤ length s) r enough) (longer Mode.Chip s t e few most) in
        settled Mode.Chip s t e few most 2 x inner r r'
        (rw (f, p, r') (chip_still (ltb 2 (needed x)) (needed x) (length (s ++ t)) fits (le_trans both (longer Mode.Chip s t e few most))))
        (rw p) (rw (f, p))

  chip_behind_lem : (decode_in Mode.Chip s).answer ≡ Answer.Done → Stays Mode.Chip s t
  unfolding chip_row_of
  chip_behind_lem e = by_index (eqb (first s) 0xDD) (eqb (first s) 0xFD) refl refl p
    where
      by_index : (a b : Bool) → eqb (first s) 0xDD ≡ a → eqb (first s) 0xFD ≡ b → (a || b) ≡ true → Stays Mode.Chip s t
      by_index true b q q' o = by_cb e ix (λ u f. rw (f, q)) (eqb (second s) 0xCB) refl
      by_index false true q q' o = by_cb e iy (λ u f. rw (f, q, q')) (eqb (second s) 0xCB) refl
      by_index false false q q' o = absurd (true≢false (sym o))

pub stays : (m : Mode) (s t : List ℕ) → (decode_in m s).answer ≡ Answer.Done → length s ≤ 3 → length (s ++ t) ≤ 4 → Stays m s t
stays m s t e few most = by_prefix_lem m (is_prefix (first s)) refl e
  where
    behind : (k : Mode) → is_prefix (first s) ≡ true → (decode_in k s).answer ≡ Answer.Done → Stays k s t
    behind Mode.Rust p d = absurd (rust_none s t few most p d)
    behind Mode.Chip p d = chip_behind_lem s t few most p d

    by_prefix_lem : (k : Mode) (b : Bool) → is_prefix (first s) ≡ b → (decode_in k s).answer ≡ Answer.Done → Stays k s t
    by_prefix_lem k true p d = behind k p d
    by_prefix_lem k false p d = by_page k s t d few most p (eqb (first s) 0xCB) (eqb (first s) 0xED) refl refl
