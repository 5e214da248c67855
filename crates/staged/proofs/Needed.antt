-- Which stage would take one to three bytes, were there more of them, says how many are needed.
-- Assumes nothing.
use mathlib.Core.Path.{◌≡◌, refl, sym, ap, subst, ◌∙◌}
use mathlib.Core.Logic.{⊎_elim, ◌↔◌}
use mathlib.Core.Bool.{Bool, true, false, cond, not, true≢false}
use mathlib.Core.List.{List, [], ◌∷◌}
use Prim.Native.Nat.{ℕ, ◌<◌, ◌≤◌}
use native.Mathlib.Omega.{arith}
use lib.Dec.{T, eqb}
use lib.ListN.{length, get_or}
use borrow.Author.Tests.{eqb-true, eq-eqb, ne_eqb}
use Rattle.std.specs.Prelude.{is_some}
use Rattle.std.specs.ControlFlow.{break_value}
use Rattle.opcode.specs.declared.record.OpCode.{OpCode}
use Rattle.table.specs.Row.{Row, row, gap}
use Rattle.table.specs.Departures.{needed}
use Rattle.table.specs.Plain.{plain}
use Rattle.table.specs.Cb.{cb}
use Rattle.table.specs.Ed.{ed}
use Rattle.table.specs.Decode.{is_prefix, page_row, row_of, ed_alone, needed_of}
use Rattle.table.specs.Consequences.{first, second}
use Rattle.table.proofs.Pages.{every, at_code}
use Rattle.table.proofs.Answers.{prefixed, page_row_lem}
use Rattle.table.proofs.Missing.{plain_needs}
use Rattle.stage.specs.Stage.{answer, of_length}

-- a stage takes the rows of its length, and no gap
taken_length : (k : ℕ) (x : Row) (s : List ℕ) (o : OpCode) → is_some (break_value (answer (of_length k x) s o)) ≡ true → needed x ≡ k
taken_length k gap s o t = absurd (true≢false (sym t))
taken_length k (row i x y z n u) s o t = by_test (eqb n k) refl t
  where
    by_test : (b : Bool) → eqb n k ≡ b → is_some (break_value (answer (cond b (row i x y z n u) gap) s o)) ≡ true → n ≡ k
    by_test true e t = eqb-true n k e
    by_test false e t = absurd (true≢false (sym t))

left_length : (k : ℕ) (x : Row) (s : List ℕ) (o : OpCode) → k ≤ 3 → is_some (break_value (answer (of_length k x) s o)) ≡ false → needed x ≡ k → ⊥
left_length k gap s o most f e = omega arith
left_length k (row i x y z n u) s o most f e = true≢false (sym (ap (λ (b : Bool). is_some (break_value (answer (cond b (row i x y z n u) gap) s o))) (eq-eqb n k e)) ∙ f)

-- no row of the CB and the ED page is three bytes long
abbrev not_three : Row → Bool
not_three x = not (eqb (needed x) 3)

cb_not_three : T (every not_three cb)
unfolding cb
cb_not_three = tt

ed_not_three : T (every not_three ed)
unfolding ed
ed_not_three = tt

-- what holds of the four bytes that no row of the plain page begins with, and of the others, holds of every byte
by_first : (P : ℕ → Type 0) (b : ℕ) → P 0xDD → P 0xFD → P 0xCB → P 0xED → (is_prefix b ≡ false → eqb b 0xCB ≡ false → eqb b 0xED ≡ false → P b) → P b
by_first P b dd fd cb ed other = by_tests (is_prefix b) (eqb b 0xCB) (eqb b 0xED) refl refl refl
  where
    by_tests : (u v w : Bool) → is_prefix b ≡ u → eqb b 0xCB ≡ v → eqb b 0xED ≡ w → P b
    by_tests true v w p c d = ⊎_elim (λ e. subst P (sym e) dd) (λ e. subst P (sym e) fd) (prefixed b p)
    by_tests false true w p c d = subst P (sym (eqb-true b 0xCB c)) cb
    by_tests false false true p c d = subst P (sym (eqb-true b 0xED d)) ed
    by_tests false false false p c d = other p c d

-- as many as the first two bytes' row needs; a byte alone as many as with 44 behind it
two_needs : (s : List ℕ) → 0 < length s → needed_of s ≡ needed (page_row (first s) (get_or s 1 0x44))
unfolding plain cb ed page_row row_of
two_needs [] some = absurd (omega arith)
two_needs (b0 ∷ []) some =
    by_first (λ (b : ℕ). needed_of (b ∷ []) ≡ needed (page_row b 0x44)) b0 refl refl refl refl
    (λ p c d. plain_needs b0 [] p c d ∙ sym (rw (c, d)))
two_needs (b0 ∷ b1 ∷ t) some =
    by_first (λ (b : ℕ). needed_of (b ∷ b1 ∷ t) ≡ needed (page_row b b1)) b0 refl refl (rw more) (rw more)
    (λ p c d. plain_needs b0 (b1 ∷ t) p c d ∙ sym (rw (c, d)))
  where
    more : eqb (length (b0 ∷ b1 ∷ t)) 1 ≡ false
    more = ne_eqb (length (b0 ∷ b1 ∷ t)) 1 (λ e. omega arith)

-- three bytes are needed where the plain page has a row of three
abbrev Alike : List ℕ → ℕ → Type 0
Alike t b0 = (needed_of (b0 ∷ t) ≡ 3) ↔ (needed (get_or plain b0 gap) ≡ 3)

unlike : (x y : ℕ) → (x ≡ 3 → ⊥) → (y ≡ 3 → ⊥) → (x ≡ 3) ↔ (y ≡ 3)
unlike x y f g = (λ e. absurd (f e), λ e. absurd (g e))

tested : (page : List Row) → T (every not_three page) → (b : ℕ) → needed (get_or page b gap) ≡ 3 → ⊥
tested page all b e = subst (λ (n : ℕ). T (not (eqb n 3))) e (at_code not_three page all tt b)

-- behind CB and ED as many as the second byte's row; ED alone needs two
two_alike : (b0 : ℕ) (page : List Row) → T (every not_three page) → is_prefix b0 ≡ false → ((b1 : ℕ) → page_row b0 b1 ≡ get_or page b1 gap) → (needed (get_or plain b0 gap) ≡ 3 → ⊥) → (t : List ℕ) → Alike t b0
two_alike b0 page all q here none t = unlike (needed_of (b0 ∷ t)) (needed (get_or plain b0 gap)) (by_alone (ed_alone (b0 ∷ t)) refl) none
  where
    by_alone : (c : Bool) → ed_alone (b0 ∷ t) ≡ c → needed_of (b0 ∷ t) ≡ 3 → ⊥
    by_alone true a e = omega (arith, rw (q, a) at e)
    by_alone false a e = tested page all (second (b0 ∷ t)) (sym (ap needed (page_row_lem (b0 ∷ t) q ∙ here (second (b0 ∷ t)))) ∙ (rw (q, a) at e))

three_needs : (t : List ℕ) (b0 : ℕ) → Alike t b0
unfolding plain page_row
three_needs t b0 =
    by_first (Alike t) b0
    (unlike 4 4 (λ e. omega arith) (λ e. omega arith))
    (unlike 4 4 (λ e. omega arith) (λ e. omega arith))
    (two_alike 0xCB cb cb_not_three refl (λ b1. refl) (λ e. omega arith) t)
    (two_alike 0xED ed ed_not_three refl (λ b1. refl) (λ e. omega arith) t)
    (λ p c d. (λ e. sym (plain_needs b0 t p c d) ∙ e, λ e. plain_needs b0 t p c d ∙ e))

-- what the two stages that are asked say of some bytes
module _ (s l : List ℕ) (o : OpCode) (some : 0 < length s) where
  abbrev two : Row
  two = page_row (first s) (get_or s 1 0x44)

  abbrev three : Row
  three = get_or plain (first s) gap

  three_is : (needed_of s ≡ 3) ↔ (needed three ≡ 3)
  three_is = by_bytes s some
    where
      by_bytes : (u : List ℕ) → 0 < length u → (needed_of u ≡ 3) ↔ (needed (get_or plain (first u) gap) ≡ 3)
      by_bytes [] h = absurd (omega arith)
      by_bytes (b0 ∷ u) h = three_needs u b0

  pub two_told : is_some (break_value (answer (of_length 2 two) l o)) ≡ true → needed_of s ≡ 2
  two_told t = two_needs s some ∙ taken_length 2 two l o t

  pub two_left : is_some (break_value (answer (of_length 2 two) l o)) ≡ false → needed_of s ≡ 2 → ⊥
  two_left f h = left_length 2 two l o (omega arith) f (sym (two_needs s some) ∙ h)

  pub three_told : is_some (break_value (answer (of_length 3 three) l o)) ≡ true → needed_of s ≡ 3
  three_told t = three_is.1 (taken_length 3 three l o t)

  pub three_left : is_some (break_value (answer (of_length 3 three) l o)) ≡ false → needed_of s ≡ 3 → ⊥
  three_left f h = left_length 3 three l o (omega arith) f (three_is.0 h)
