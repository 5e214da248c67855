-- Only one answer fits the rules, and it is 0 exactly when none of 5 to 13 holds. Assumes nothing but what `check_right` does.
use Prim.Native.Nat.{ℕ}
use native.Mathlib.Omega.{arith}
use mathlib.Core.Path.{◌≡◌, refl, sym, ap, subst, ◌∙◌}
use mathlib.Core.Bool.{cond}
use mathlib.Core.List.{List}
use mathlib.Core.Logic.{inl, inr, ⊎_elim, ◌↔◌}
use lib.Dec.{eqb}
use Rattle.std.specs.Prelude.{Ok, Err}
use Rattle.std.proofs.lemmas.Bool.{cases_lt}
use Rattle.marking.specs.declared.MapRefusal.{MapRefusal}
use Rattle.marking.specs.Rules.{Look, Sane, Chart, entry, MarkValue, EntryNotStart, Passes}
use Rattle.marking.specs.Verdict.{Checked, number_of, address_of, InOrder, Lowest, Some, Broken, unfinished, clipped, stray, bad_next, AnyAt, Verdict}
use Rattle.marking.specs.Check.{check_of}
use Rattle.marking.proofs.Passing.{shut_out}
use Rattle.marking.proofs.Right.{check_right}

-- the lowest is one
pub lowest_one : {p : ℕ → Type 0} (j k : ℕ) → Lowest p j → Lowest p k → j ≡ k
lowest_one j k x y =
    ⊎_elim (λ lt. absurd (y.below j lt x.holds)) (λ ge. ⊎_elim (λ lt. absurd (x.below k lt y.holds)) (λ le. omega arith) (cases_lt k j)) (cases_lt j k)

-- what tests in order decide is one, if what each of them decides is
one_by_one : {R D D' N N' C : Type 0} → (D → D' → C) → (N → N' → C) → InOrder R D N → InOrder R D' N' → C
one_by_one here next (inl (r, d)) (inl (r', d')) = here d d'
one_by_one here next (inl (r, d)) (inr (none, n')) = absurd (none r)
one_by_one here next (inr (none, n)) (inl (r', d')) = absurd (none r')
one_by_one here next (inr (none, n)) (inr (none', n')) = next n n'

module _ (look : Look) (m : Chart) (es : List ℕ) where
  -- two answers are the same
  abbrev Same : ℕ → ℕ → ℕ → ℕ → Type 0
  Same n a n' a' = (n ≡ n') × (a ≡ a')

  -- only one number and one address fit the rules
  pub verdict_one : (n a n' a' : ℕ) → Verdict look m es n a → Verdict look m es n' a' → (n ≡ n') × (a ≡ a')
  verdict_one n a n' a' =
      one_by_one (fixed 5) (one_by_one (fixed 6) (one_by_one (fixed 7) (one_by_one mark_value (one_by_one entry_not_start (one_by_one row (fixed 0))))))
    where
      fixed : (k : ℕ) → (n ≡ k) × (a ≡ 0) → (n' ≡ k) × (a' ≡ 0) → Same n a n' a'
      fixed k x y = (x.0 ∙ sym y.0, x.1 ∙ sym y.1)

      mark_value : (n ≡ 8) × Lowest (MarkValue m) a → (n' ≡ 8) × Lowest (MarkValue m) a' → Same n a n' a'
      mark_value x y = (x.0 ∙ sym y.0, lowest_one a a' x.1 y.1)

      entry_not_start : (n ≡ 9) × ((j : ℕ) × Lowest (EntryNotStart m es) j × (a ≡ entry es j)) → (n' ≡ 9) × ((j : ℕ) × Lowest (EntryNotStart m es) j × (a' ≡ entry es j)) → Same n a n' a'
      entry_not_start x y =
          let u = x.1 in
          let v = y.1 in
          (x.0 ∙ sym y.0, u.2 ∙ ap (entry es) (lowest_one u.0 v.0 u.1 v.1) ∙ sym v.2)

      row : Lowest (AnyAt look m) a × Lowest (Broken look m a) n → Lowest (AnyAt look m) a' × Lowest (Broken look m a') n' → Same n a n' a'
      row x y =
          let e = lowest_one a a' x.0 y.0 in
          (lowest_one n n' x.1 (subst (λ (b : ℕ). Lowest (Broken look m b) n') (sym e) y.1), e)

-- an answer by its number and address
abbrev answer_by : ℕ → ℕ → Checked
answer_by n a =
    cond (eqb n 0) (Ok tt)
    (cond (eqb n 5) (Err MapRefusal.ImageSize)
    (cond (eqb n 6) (Err MapRefusal.MarkSize)
    (cond (eqb n 7) (Err MapRefusal.EntryCount)
    (cond (eqb n 8) (Err (MapRefusal.MarkValue a))
    (cond (eqb n 9) (Err (MapRefusal.EntryNotStart a))
    (cond (eqb n 10) (Err (MapRefusal.Unfinished a))
    (cond (eqb n 11) (Err (MapRefusal.Clipped a))
    (cond (eqb n 12) (Err (MapRefusal.Stray a)) (Err (MapRefusal.BadNext a))))))))))

-- number and address tell the answer
told_by_lem : (x : Checked) → answer_by (number_of x) (address_of x) ≡ x
told_by_lem (Ok done) = refl
told_by_lem (Err MapRefusal.ImageSize) = refl
told_by_lem (Err MapRefusal.MarkSize) = refl
told_by_lem (Err MapRefusal.EntryCount) = refl
told_by_lem (Err (MapRefusal.MarkValue a)) = refl
told_by_lem (Err (MapRefusal.EntryNotStart a)) = refl
told_by_lem (Err (MapRefusal.Unfinished a)) = refl
told_by_lem (Err (MapRefusal.Clipped a)) = refl
told_by_lem (Err (MapRefusal.Stray a)) = refl
told_by_lem (Err (MapRefusal.BadNext a)) = refl

pub answer_told : (x y : Checked) → number_of x ≡ number_of y → address_of x ≡ address_of y → x ≡ y
answer_told x y n a = sym (told_by_lem x) ∙ rw (n, a) (told_by_lem y)

-- none of 10 to 13 has the number 0
not_zero : {look : Look} {m : Chart} {a n : ℕ} → Broken look m a n → n ≡ 0 → ⊥
not_zero (unfinished u) e = omega arith
not_zero (clipped u) e = omega arith
not_zero (stray u) e = omega arith
not_zero (bad_next u) e = omega arith

module _ (look : Look) (m : Chart) (es : List ℕ) where
  verdict_passes : (n a : ℕ) → Verdict look m es n a → n ≡ 0 → Passes look m es
  verdict_passes n a (inl (r, d)) z = absurd (omega (arith, d.0))
  verdict_passes n a (inr (n5, inl (r, d))) z = absurd (omega (arith, d.0))
  verdict_passes n a (inr (n5, inr (n6, inl (r, d)))) z = absurd (omega (arith, d.0))
  verdict_passes n a (inr (n5, inr (n6, inr (n7, inl (r, d))))) z = absurd (omega (arith, d.0))
  verdict_passes n a (inr (n5, inr (n6, inr (n7, inr (n8, inl (r, d)))))) z = absurd (omega (arith, d.0))
  verdict_passes n a (inr (n5, inr (n6, inr (n7, inr (n8, inr (n9, inl (r, d))))))) z = absurd (not_zero d.1.holds z)
  verdict_passes n a (inr (n5, inr (n6, inr (n7, inr (n8, inr (n9, inr (n10, d))))))) z =
      record {
        image_size = n5;
        mark_size = n6;
        entry_count = n7;
        mark_value = λ b h. n8 (b, h);
        entry_not_start = λ j h. n9 (j, h);
        unfinished = λ b h. n10 (b, (10, unfinished h));
        clipped = λ b h. n10 (b, (11, clipped h));
        stray = λ b h. n10 (b, (12, stray h));
        bad_next = λ b h. n10 (b, (13, bad_next h));
      }

  passes_verdict : Passes look m es → Verdict look m es 0 0
  passes_verdict p = inr (p.image_size, inr (p.mark_size, inr (p.entry_count, inr (λ h. p.mark_value h.0 h.1, inr (λ h. p.entry_not_start h.0 h.1, inr (none, (refl, refl)))))))
    where
      none : Some (AnyAt look m) → ⊥
      none (b, h) = shut_out look m b (p.unfinished b) (p.clipped b) (p.stray b) (p.bad_next b) h

module _ (look : Look) (sane : Sane look) (m : Chart) (es : List ℕ) where
  -- the check's answer is the only one that fits
  pub check_only : (x : Checked) → Verdict look m es (number_of x) (address_of x) → x ≡ check_of look m es
  check_only x v =
      let s = verdict_one look m es (number_of x) (address_of x) (number_of (check_of look m es)) (address_of (check_of look m es)) v (check_right look sane m es) in
      answer_told x (check_of look m es) s.0 s.1

  -- the answer is 0 exactly when the marking rules are met
  pub done_exactly : (number_of (check_of look m es) ≡ 0) ↔ Passes look m es
  done_exactly = (
    verdict_passes look m es (number_of (check_of look m es)) (address_of (check_of look m es)) (check_right look sane m es),
    λ p. ap number_of (sym (check_only (Ok tt) (passes_verdict look m es p))),
  )
