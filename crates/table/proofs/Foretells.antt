-- What is needed less what is there is the fewest bytes that, for some choice of them, would make the decode succeed, of any reading that keeps to `Foretells`.
-- Assumes nothing.
use mathlib.Core.Path.{◌≡◌, refl, sym, ap, subst}
use mathlib.Core.Bool.{Bool, true, false}
use mathlib.Core.Logic.{⊎_elim}
use mathlib.Core.List.{List, [], ◌∷◌, ◌++◌}
use Prim.Native.Nat.{ℕ, zero, suc, ◌-◌, ◌≤◌}
use native.Mathlib.Omega.{arith}
use lib.Dec.{eqb}
use borrow.Author.Tests.{eqb-true}
use lib.ListN.{length, get_or, length-append}
use Rattle.table.specs.declared.Decoded.{Decoded}
use Rattle.table.specs.Row.{gap}
use Rattle.table.specs.Departures.{needed}
use Rattle.table.specs.Plain.{plain}
use Rattle.table.specs.Decode.{is_prefix, Reading}
use Rattle.table.specs.Consequences.{AllBytes, Below, Completion, Fewest}
use Rattle.table.proofs.Done.{decides, decided}
use Rattle.table.proofs.Answers.{prefixed}

-- how many bytes are needed is known from the first two on; of a byte alone, no second one makes it less, and 44 makes it no more
pub record Foretells (r : Reading) : Type 0 where
  pub at_most : (s : List ℕ) → r.needed s ≤ 4
  pub two_say : (b0 b1 : ℕ) (t : List ℕ) → r.needed (b0 ∷ b1 ∷ t) ≡ r.needed (b0 ∷ b1 ∷ [])
  pub no_less : (b0 b1 : ℕ) → r.needed (b0 ∷ []) ≤ r.needed (b0 ∷ b1 ∷ [])
  pub no_more : (b0 : ℕ) → r.needed (b0 ∷ 0x44 ∷ []) ≤ r.needed (b0 ∷ [])

-- one to three bytes, the first of them 44
abbrev filler : ℕ → List ℕ
filler zero = []
filler (suc zero) = 0x44 ∷ []
filler (suc (suc zero)) = 0x44 ∷ 0 ∷ []
filler (suc (suc (suc n))) = 0x44 ∷ 0 ∷ 0 ∷ []

filler_count : (k : ℕ) → k ≤ 3 → length (filler k) ≡ k
filler_count zero h = refl
filler_count (suc zero) h = refl
filler_count (suc (suc zero)) h = refl
filler_count (suc (suc (suc zero))) h = refl
filler_count (suc (suc (suc (suc n)))) h = absurd (omega arith)

three_bytes : AllBytes (0x44 ∷ 0 ∷ 0 ∷ [])
three_bytes zero = omega arith
three_bytes (suc zero) = omega arith
three_bytes (suc (suc zero)) = omega arith
three_bytes (suc (suc (suc n))) = omega arith

filler_bytes : (k : ℕ) → AllBytes (filler k)
filler_bytes zero j = omega arith
filler_bytes (suc zero) zero = omega arith
filler_bytes (suc zero) (suc j) = omega arith
filler_bytes (suc (suc zero)) zero = omega arith
filler_bytes (suc (suc zero)) (suc zero) = omega arith
filler_bytes (suc (suc zero)) (suc (suc j)) = omega arith
filler_bytes (suc (suc (suc n))) j = three_bytes j

module _ (r : Reading) (w : Foretells r) where
  -- more bytes need no less
  grows : (s t : List ℕ) → 1 ≤ length s → r.needed s ≤ r.needed (s ++ t)
  grows [] t some = absurd (omega arith)
  grows (b0 ∷ []) [] some = omega arith
  grows (b0 ∷ []) (b1 ∷ t) some = omega (arith, w.no_less b0 b1, w.two_say b0 b1 t)
  grows (b0 ∷ b1 ∷ s) t some = omega (arith, w.two_say b0 b1 s, w.two_say b0 b1 (s ++ t))

  -- and with these no more
  fills : (s : List ℕ) (k : ℕ) → 1 ≤ length s → 1 ≤ k → r.needed (s ++ filler k) ≤ r.needed s
  fills [] k some more = absurd (omega arith)
  fills (b0 ∷ []) zero some more = absurd (omega arith)
  fills (b0 ∷ []) (suc zero) some more = w.no_more b0
  fills (b0 ∷ []) (suc (suc zero)) some more = omega (arith, w.no_more b0, w.two_say b0 0x44 (0 ∷ []))
  fills (b0 ∷ []) (suc (suc (suc n))) some more = omega (arith, w.no_more b0, w.two_say b0 0x44 (0 ∷ 0 ∷ []))
  fills (b0 ∷ b1 ∷ s) k some more = omega (arith, w.two_say b0 b1 s, w.two_say b0 b1 (s ++ filler k))

  -- what is needed less what is there is the fewest
  pub fewest : (s : List ℕ) → Below r s → Fewest r s (r.needed s - length s)
  fewest s (some, few, less) = (completes, least)
    where
      completes : Completion r s (r.needed s - length s)
      completes =
          let k = r.needed s - length s in
          let most = w.at_most s in
          let count = filler_count k (omega arith) in
          let all : length (s ++ filler k) ≡ r.needed s = omega (arith, length-append s (filler k)) in
          record {
            bytes = filler k;
            are_bytes = filler_bytes k;
            count = count;
            succeeds = ap (λ (d : Decoded). d.answer) (decided r (s ++ filler k) (omega arith) (omega arith) (omega (arith, fills s k some (omega arith))));
          }

      least : (j : ℕ) → Completion r s j → r.needed s - length s ≤ j
      least j c = omega (arith, length-append s c.bytes, c.count, grows s c.bytes some, (decides r (s ++ c.bytes) c.succeeds).enough)

-- a byte alone, by its own value
pub record Alone (r : Reading) (b0 : ℕ) : Type 0 where
  pub no_less : (b1 : ℕ) → r.needed (b0 ∷ []) ≤ r.needed (b0 ∷ b1 ∷ [])
  pub no_more : r.needed (b0 ∷ 0x44 ∷ []) ≤ r.needed (b0 ∷ [])

-- a byte with no second byte of code says by itself how many are needed
abbrev pub Plainly : Reading → Type 0
Plainly r = (b0 : ℕ) (t : List ℕ) → is_prefix b0 ≡ false → eqb b0 0xCB ≡ false → eqb b0 0xED ≡ false → r.needed (b0 ∷ t) ≡ needed (get_or plain b0 gap)

module _ (r : Reading) (dd : Alone r 0xDD) (fd : Alone r 0xFD) (cb : Alone r 0xCB) (ed : Alone r 0xED) (plainly : Plainly r) where
  pub alone : (b0 : ℕ) → Alone r b0
  alone b0 = by_tests (is_prefix b0) (eqb b0 0xCB) (eqb b0 0xED) refl refl refl
    where
      by_tests : (u v w : Bool) → is_prefix b0 ≡ u → eqb b0 0xCB ≡ v → eqb b0 0xED ≡ w → Alone r b0
      by_tests true v w p c d = ⊎_elim (λ e. subst (Alone r) (sym e) dd) (λ e. subst (Alone r) (sym e) fd) (prefixed b0 p)
      by_tests false true w p c d = subst (Alone r) (sym (eqb-true b0 0xCB c)) cb
      by_tests false false true p c d = subst (Alone r) (sym (eqb-true b0 0xED d)) ed
      by_tests false false false p c d =
          record {
            no_less = λ b1. omega (arith, plainly b0 [] p c d, plainly b0 (b1 ∷ []) p c d);
            no_more = omega (arith, plainly b0 [] p c d, plainly b0 (0x44 ∷ []) p c d);
          }
