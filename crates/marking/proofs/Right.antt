-- The check gives the answer that the rules name. Assumes nothing but that the decoder's lengths run from 1 to 4 within the window.
use Prim.Native.Nat.{ℕ, ◌+◌, ◌-◌, ◌%◌, ◌≤◌, ◌<◌}
use native.Mathlib.Omega.{arith}
use mathlib.Core.Path.{◌≡◌, refl, ap, ◌∙◌}
use mathlib.Core.Bool.{Bool, true, not}
use mathlib.Core.List.{List}
use mathlib.Core.Logic.{inl, inr, ⊎_elim}
use lib.Dec.{eqb, ltb}
use lib.ListN.{length, get_or}
use Rattle.std.specs.Prelude.{Option, None, Some as just}
use Rattle.std.specs.List.{position_or_len}
use Rattle.std.proofs.lemmas.Bool.{both_ways, cases_lt, ltb-true, ltb-false, eqb-true, eqb-false, not-true, not-false, lt-ltb, eq-eqb, cond_both, or_left, or_right, or_cases}
use Rattle.std.proofs.lemmas.List.Sums.{prefix_len_passes, prefix_len_stops}
use Rattle.std.proofs.lemmas.List.Folds.{find_at}
use Rattle.std.proofs.lemmas.Option.{slice_get-get_or, slice_get_past}
use Rattle.image.specs.Places.{wrong_size}
use Rattle.marking.specs.Rules.{Look, Sane, Chart, entries, entry, mark, ImageSize, MarkSize, EntryCount, MarkValue, EntryNotStart}
use Rattle.marking.specs.Verdict.{Checked, number_of, address_of, Lowest, Some, Verdict}
use Rattle.marking.specs.Check.{first_over, is_start, wrong_count, addresses, first_entry, first_broken, marks_by, entries_by, check_of}
use Rattle.marking.proofs.Tests.{same_size, start_true, start_false, entry_count, entry_at}
use Rattle.marking.proofs.Passing.{PassRight, first_broken_lem}

-- 5: the test and the rule
size_is : (m : Chart) → ImageSize m → wrong_size m.image m.origin ≡ true
size_is m (inl none) = or_left _ _ (eq-eqb (length m.image) 0 none)
size_is m (inr far) = or_right _ _ (lt-ltb 65536 (m.origin + length m.image) far)

size_true : (m : Chart) → wrong_size m.image m.origin ≡ true → ImageSize m
size_true m e =
    ⊎_elim (λ t. inl (eqb-true (length m.image) 0 t)) (λ t. inr (ltb-true 65536 (m.origin + length m.image) t)) (or_cases _ _ e)

-- 7: the test and the rule
count_is : (es : List ℕ) → EntryCount es → wrong_count es ≡ true
unfolding wrong_count
count_is es (inl none) = or_left _ _ (eq-eqb (entries es) 0 none)
count_is es (inr (inl more)) = or_right _ _ (or_left _ _ (lt-ltb 256 (entries es) more))
count_is es (inr (inr half)) = or_right _ _ (or_right _ _ (eq-eqb (length es % 2) 1 half))

count_true : (es : List ℕ) → wrong_count es ≡ true → EntryCount es
unfolding wrong_count
count_true es e =
    ⊎_elim (λ t. inl (eqb-true (entries es) 0 t))
    (λ t. inr (⊎_elim (λ u. inl (ltb-true 256 (entries es) u)) (λ u. inr (eqb-true (length es % 2) 1 u)) (or_cases _ _ t)))
    (or_cases _ _ e)

module _ (look : Look) (sane : Sane look) (m : Chart) (es : List ℕ) where
  -- the answer x is the one that the rules name
  abbrev Named : Checked → Type 0
  Named x = Verdict look m es (number_of x) (address_of x)

  module _ (not-5 : ImageSize m → ⊥) (not-6 : MarkSize m → ⊥) (not-7 : EntryCount es → ⊥) where
    same : length m.marks ≡ length m.image
    same = same_size m not-6

    -- 8: the first mark over 2 is the lowest
    abbrev top : ℕ
    top = position_or_len (ltb 2) m.marks

    under : (a : ℕ) → MarkValue m a → a < m.origin + top → ⊥
    under a h l =
        omega (arith, h.1, ltb-false 2 (mark m a) (not-true (ltb 2 (mark m a)) (prefix_len_passes (λ (k : ℕ). not (ltb 2 k)) m.marks (a - m.origin) 0 (omega (arith, h.0.0, l)))))

    lowest_8 : top < length m.marks → Lowest (MarkValue m) (m.origin + top)
    lowest_8 l =
        let e : m.origin + top - m.origin ≡ top = omega arith in
        record {
          holds = ((omega arith, omega (arith, l, same)), rw e (ltb-true 2 (get_or m.marks top 0) (not-false _ (prefix_len_stops (λ (k : ℕ). not (ltb 2 k)) m.marks 0 l))));
          below = λ b lt h. under b h lt;
        }

    not_8 : length m.marks ≤ top → Some (MarkValue m) → ⊥
    not_8 l h = under h.0 h.1 (omega (arith, h.1.0.1, same, l))

    -- 9: the first entry that is no start
    abbrev wrong : ℕ → Bool
    wrong a = not (is_start m.marks m.origin a)

    abbrev bad : ℕ
    bad = position_or_len wrong (addresses es)

    good : (k : ℕ) → k < bad → EntryNotStart m es k → ⊥
    good k l h =
        h.1 (rw (← entry_at es k h.0) (start_true m same (get_or (addresses es) k 0) (not-false _ (not-true _ (prefix_len_passes (λ (a : ℕ). not (wrong a)) (addresses es) k 0 l)))))

    lowest_9 : bad < entries es → Lowest (EntryNotStart m es) bad
    lowest_9 l =
        record {
          holds = (l, rw (← entry_at es bad l) (start_false m same (get_or (addresses es) bad 0) (not-true _ (not-false _ (prefix_len_stops (λ (a : ℕ). not (wrong a)) (addresses es) 0 (omega (arith, entry_count es)))))));
          below = good;
        }

    not_9 : entries es ≤ bad → Some (EntryNotStart m es) → ⊥
    not_9 l h = good h.0 (omega (arith, h.1.0, l)) h.1

    -- it is found, or there is none
    found_9 : bad < entries es → first_entry m.marks m.origin es ≡ just (entry es bad)
    found_9 l = find_at wrong (addresses es) ∙ slice_get-get_or (addresses es) bad 0 (omega (arith, entry_count es)) ∙ ap just (entry_at es bad l)

    none_9 : entries es ≤ bad → first_entry m.marks m.origin es ≡ None
    none_9 l = find_at wrong (addresses es) ∙ slice_get_past (addresses es) bad (omega (arith, entry_count es))

    -- 10 to 13
    named_rows : (Some (MarkValue m) → ⊥) → (Some (EntryNotStart m es) → ⊥) → (x : Checked) → PassRight look sane m same x → Named x
    named_rows n8 n9 x (inl (done, none)) = rw done (inr (not-5, inr (not-6, inr (not-7, inr (n8, inr (n9, inr (λ h. none h.0 h.1, (refl, refl))))))))
    named_rows n8 n9 x (inr (low, number)) = inr (not-5, inr (not-6, inr (not-7, inr (n8, inr (n9, inl ((address_of x, low.holds), (low, number)))))))

    named_entries : (Some (MarkValue m) → ⊥) → Named (entries_by look m (first_entry m.marks m.origin es))
    named_entries n8 =
        ⊎_elim
        (λ l. let low = lowest_9 l in rw (found_9 l) (inr (not-5, inr (not-6, inr (not-7, inr (n8, inl ((bad, low.holds), (refl, (bad, low, refl)))))))))
        (λ l. rw (none_9 l) (named_rows n8 (not_9 l) (first_broken look m) (first_broken_lem look sane m same)))
        (cases_lt bad (entries es))

    named_marks : Named (marks_by look m (first_over m.marks) (entries_by look m (first_entry m.marks m.origin es)))
    named_marks =
        cond_both (ltb top (length m.marks)) (just top) None (λ (o : Option ℕ). Named (marks_by look m o (entries_by look m (first_entry m.marks m.origin es))))
        (λ t. let low = lowest_8 (ltb-true top (length m.marks) t) in inr (not-5, inr (not-6, inr (not-7, inl ((m.origin + top, low.holds), (refl, low))))))
        (λ t. named_entries (not_8 (ltb-false top (length m.marks) t)))

  pub check_right : Verdict look m es (number_of (check_of look m es)) (address_of (check_of look m es))
  unfolding check_of
  check_right =
      cond_both (wrong_size m.image m.origin) _ _ Named (λ t. inl (size_true m t, (refl, refl)))
      (λ t₅. let not-5 : ImageSize m → ⊥ = λ h. both_ways _ t₅ (size_is m h) in
      cond_both (not (eqb (length m.marks) (length m.image))) _ _ Named (λ t. inr (not-5, inl (eqb-false _ _ (not-true _ t), (refl, refl))))
      (λ t₆. let not-6 : MarkSize m → ⊥ = λ h. h (eqb-true _ _ (not-false _ t₆)) in
      cond_both (wrong_count es) _ _ Named (λ t. inr (not-5, inr (not-6, inl (count_true es t, (refl, refl)))))
      (λ t₇. named_marks not-5 not-6 (λ h. both_ways _ t₇ (count_is es h)))))
