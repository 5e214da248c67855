-- What the edits' definitions imply: a record as decoding makes it stays one, and a refused edit's record is the one that came. Assumes nothing.
use mathlib.Core.Path.{◌≡◌, refl, ap, ◌∙◌}
use mathlib.Core.Bool.{Bool, true, false, cond}
use mathlib.Core.List.{List, [], ◌∷◌}
use Prim.Native.Nat.{ℕ, zero, suc, ◌+◌, ◌-◌, ◌<◌, ◌≤◌}
use native.Mathlib.Omega.{arith}
use lib.ListN.{length, take, drop, get_or, get_or-eq_default}
use lib.Seq.{get_or-take, get_or-drop, length-take-le}
use lib.Dec.{ltb}
use Rattle.std.proofs.lemmas.Grind.{common_steps}
use borrow.Author.Tests.{ltb-true, ltb-false}
use Rattle.std.specs.Prelude.{IfErr}
use Rattle.opcode.specs.declared.counts.TStates.{TStates}
use Rattle.opcode.specs.declared.timing.Timing.{Timing}
use Rattle.opcode.specs.declared.record.OpCode.{OpCode}
use Rattle.opcode.specs.Record.{unfilled, six}
use Rattle.opcode.specs.Timing.{filled, listed, Formed, written, inserted, removed, timed, no, yes, rec_of, may_insert, may_extend, may_remove, insert_of, extend_of, push_of, remove_of}
use Rattle.timing.proofs.Laws.{each, six_at, mid, back, rest_len, removed_len, may_insert_lem, may_remove_lem, at_the_end}

-- places behind the first n are zero
abbrev Clear : List TStates → ℕ → Type 0
Clear l n = (k : ℕ) → n ≤ k → k < 6 → get_or l k unfilled ≡ unfilled

-- the first n of six places, and zeros behind
cut : (l : List TStates) (n k : ℕ) → length l ≡ 6 → n ≤ 6 → Clear l n → k < 6 → get_or l k unfilled ≡ get_or (take n l) k unfilled
cut l n k six_long most clear h = grind (arith, common_steps, get_or-take {A = TStates}, get_or-eq_default {A = TStates}, length-take-le {A = TStates}, clear k)

-- so it is with the places of a record that decoding makes, and such a record is made of them
six_long : (r : OpCode) → Formed r → length r.tstates ≡ 6
six_long r f = ap length f.1

clear : (r : OpCode) → Formed r → Clear r.tstates r.mcycles.0
clear r f k past h =
    ap (λ (l : List TStates). get_or l k unfilled) f.1
    ∙ six_at (filled r) k h
    ∙ get_or-eq_default (filled r) unfilled (omega (arith, past, length-take-le r.mcycles.0 r.tstates (omega (arith, f.0, six_long r f))))

timed_formed : (r : OpCode) (l : List TStates) (n : ℕ) → n ≤ 6 → Clear l n → Formed (timed r l n)
timed_formed r l n most zeros = (most, each (take n (six l)) (at 0 (omega arith)) (at 1 (omega arith)) (at 2 (omega arith)) (at 3 (omega arith)) (at 4 (omega arith)) (at 5 (omega arith)))
  where
    at : (k : ℕ) → k < 6 → get_or (six l) k unfilled ≡ get_or (take n (six l)) k unfilled
    at k = cut (six l) n k refl most (λ j past h. six_at l j h ∙ zeros j past h)

zero_at : (k : ℕ) → get_or (unfilled ∷ []) k unfilled ≡ unfilled
zero_at zero = refl
zero_at (suc k) = refl

-- an edit behind its test
formed : (b : Bool) (r : OpCode) (l : List TStates) (n : ℕ) → Formed r → (b ≡ true → (n ≤ 6) × Clear l n) → Formed (rec_of (cond b (yes r l n) (no r)))
formed true r l n f g = timed_formed r l n (g refl).0 (g refl).1
formed false r l n f g = f

kept : (b : Bool) (r : OpCode) (l : List TStates) (n : ℕ) → IfErr (cond b (yes r l n) (no r)) (λ e. e ≡ r)
kept true r l n = tt
kept false r l n = refl

module _ (r : OpCode) (f : Formed r) where
  pub insert_formed : (pos : ℕ) (x : Timing) → length x.tstates ≡ 6 → Formed (rec_of (insert_of r pos x))
  unfolding insert_of inserted
  insert_formed pos x those =
      formed (may_insert r.mcycles.0 pos x.mcycles.0) r (inserted r.tstates pos (listed x)) (r.mcycles.0 + x.mcycles.0) f (λ e.
      let h = may_insert_lem r.mcycles.0 pos x.mcycles.0 e in
      let long = length-take-le x.mcycles.0 x.tstates (omega (arith, h, those)) in (
        omega (arith, h),
        λ k past in-six.
            back r.tstates (listed x) pos pos k (omega (arith, h, six_long r f)) (omega (arith, h, long, past))
            ∙ clear r f (pos + (k - pos - length (listed x))) (omega (arith, h, long, past)) (omega (arith, h, long, past, in-six)),
      ))

  pub extend_formed : (x : Timing) → length x.tstates ≡ 6 → Formed (rec_of (extend_of r x))
  unfolding extend_of written
  extend_formed x those =
      formed (may_extend r.mcycles.0 x.mcycles.0) r (written r.tstates r.mcycles.0 (listed x)) (r.mcycles.0 + x.mcycles.0) f (λ e.
      let m = r.mcycles.0 in
      let h = may_insert_lem m m x.mcycles.0 (at_the_end m x.mcycles.0 ∙ e) in
      let long = length-take-le x.mcycles.0 x.tstates (omega (arith, h, those)) in (
        omega (arith, h),
        λ k past in-six.
            back r.tstates (listed x) m (m + length (listed x)) k (omega (arith, h, six_long r f)) (omega (arith, h, long, past))
            ∙ clear r f (m + length (listed x) + (k - m - length (listed x))) (omega (arith, h, long, past)) (omega (arith, h, long, past, in-six)),
      ))

  pub push_formed : (t : TStates) → Formed (rec_of (push_of r t))
  unfolding push_of extend_of
  push_formed t = extend_formed (record { tstates = t ∷ unfilled ∷ unfilled ∷ unfilled ∷ unfilled ∷ unfilled ∷ []; mcycles = record { 0 = 1 } }) refl

  -- without place pos
  module _ (pos : ℕ) (most : r.mcycles.0 ≤ 6) (fits : pos < r.mcycles.0) where
    abbrev rest : List TStates
    rest = drop (pos + 1) r.tstates

    in_list : pos < 6
    in_list = omega (arith, most, fits)

    long : length (removed r.tstates pos) ≡ 6
    long = removed_len r.tstates pos (six_long r f) in_list

    few : length rest ≡ 6 - 1 - pos
    few = rest_len r.tstates pos (six_long r f) in_list

    shifted : Clear (removed r.tstates pos) r.mcycles.0
    unfolding removed written
    shifted k past in-six = by_test (ltb k 5) refl
      where
        by_test : (b : Bool) → ltb k 5 ≡ b → get_or (removed r.tstates pos) k unfilled ≡ unfilled
        by_test true p =
            mid r.tstates rest pos (pos + length rest) k (omega (arith, six_long r f, in_list)) (omega (arith, past, fits)) (omega (arith, few, in_list, ltb-true k 5 p))
            ∙ get_or-drop (pos + 1) r.tstates (k - pos) unfilled
            ∙ clear r f (pos + 1 + (k - pos)) (omega (arith, past, fits)) (omega (arith, past, fits, ltb-true k 5 p))
        by_test false p =
            back r.tstates rest pos (pos + length rest) k (omega (arith, six_long r f, in_list)) (omega (arith, few, in_list, ltb-false k 5 p))
            ∙ clear r f (pos + length rest + (k - pos - length rest)) (omega (arith, past, fits, few)) (omega (arith, past, fits, few, in-six, in_list, ltb-false k 5 p))

    left : Clear (written (removed r.tstates pos) (r.mcycles.0 - 1) (unfilled ∷ [])) (r.mcycles.0 - 1)
    unfolding written
    left k past in-six = by_test (ltb k r.mcycles.0) refl
      where
        by_test : (b : Bool) → ltb k r.mcycles.0 ≡ b → get_or (written (removed r.tstates pos) (r.mcycles.0 - 1) (unfilled ∷ [])) k unfilled ≡ unfilled
        by_test true p =
            let m = r.mcycles.0 in
            mid (removed r.tstates pos) (unfilled ∷ []) (m - 1) (m - 1 + 1) k (omega (arith, long, most)) past (omega (arith, fits, ltb-true k m p))
            ∙ zero_at (k - (m - 1))
        by_test false p =
            let m = r.mcycles.0 in
            back (removed r.tstates pos) (unfilled ∷ []) (m - 1) (m - 1 + 1) k (omega (arith, long, most)) (omega (arith, fits, ltb-false k m p))
            ∙ shifted (m - 1 + 1 + (k - (m - 1) - 1)) (omega (arith, fits)) (omega (arith, fits, ltb-false k m p, in-six))

  pub remove_formed : (pos : ℕ) → Formed (rec_of (remove_of r pos))
  unfolding remove_of
  remove_formed pos =
      formed (may_remove r.mcycles.0 pos) r (written (removed r.tstates pos) (r.mcycles.0 - 1) (unfilled ∷ [])) (r.mcycles.0 - 1) f (λ e.
      let h = may_remove_lem r.mcycles.0 pos e in
      (omega (arith, h), left pos h.0 h.1))

pub insert_kept : (r : OpCode) (pos : ℕ) (x : Timing) → IfErr (insert_of r pos x) (λ e. e ≡ r)
unfolding insert_of
insert_kept r pos x = kept (may_insert r.mcycles.0 pos x.mcycles.0) r (inserted r.tstates pos (listed x)) (r.mcycles.0 + x.mcycles.0)

pub extend_kept : (r : OpCode) (x : Timing) → IfErr (extend_of r x) (λ e. e ≡ r)
unfolding extend_of
extend_kept r x = kept (may_extend r.mcycles.0 x.mcycles.0) r (written r.tstates r.mcycles.0 (listed x)) (r.mcycles.0 + x.mcycles.0)

pub push_kept : (r : OpCode) (t : TStates) → IfErr (push_of r t) (λ e. e ≡ r)
unfolding push_of
push_kept r t = kept (may_extend r.mcycles.0 1) r (written r.tstates r.mcycles.0 (t ∷ [])) (r.mcycles.0 + 1)

pub remove_kept : (r : OpCode) (pos : ℕ) → IfErr (remove_of r pos) (λ e. e ≡ r)
unfolding remove_of
remove_kept r pos = kept (may_remove r.mcycles.0 pos) r (written (removed r.tstates pos) (r.mcycles.0 - 1) (unfilled ∷ [])) (r.mcycles.0 - 1)
