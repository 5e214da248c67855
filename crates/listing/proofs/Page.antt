-- Pages: the rows that are written to some room, what is left for the next, and how much is answered. Assumes nothing.
use mathlib.Core.Path.{◌≡◌, refl, sym, ap, subst, ◌∙◌}
use mathlib.Core.Bool.{Bool, true, false, cond}
use mathlib.Core.List.{List, [], ◌∷◌, ◌++◌, append_assoc}
use Prim.Native.Nat.{ℕ, zero, suc, ◌+◌, ◌-◌, ◌<◌, ◌≤◌}
use native.Mathlib.Omega.{arith}
use lib.Dec.{leb}
use lib.ListN.{length, take, drop, length-take, length-drop, length-append}
use lib.Seq.{drop-drop}
use borrow.Author.Tests.{leb-true, leb-false, le-leb, lt-leb}
use Rattle.table.specs.declared.Mode.{Mode}
use Rattle.table.proofs.Pages.{chosen}
use Rattle.image.specs.Places.{wrong_size, outside, window, window_at}
use Rattle.listing.specs.Rows.{line_of, passed_of, Row, row_at, listing, printed, joined}
use Rattle.listing.specs.Answers.{Outcome, outcome}
use Rattle.listing.specs.Page.{page, page_at, written, rows_outcome}
use Rattle.listing.proofs.Passed.{passed_least, passed_within}
use Rattle.listing.proofs.Listing.{listing_next, bytes_joined}

module _ (mode : Mode) where
  -- where there is room for the first line its row is written, and the others to what is left
  pub page_next : (room a : ℕ) (s : List ℕ) → 1 ≤ length s → length (line_of mode a (window s)) ≤ room → page room (listing mode a s) ≡ row_at mode a s ∷ page (room - length (line_of mode a (window s))) (listing mode (a + passed_of mode (window s)) (drop (passed_of mode (window s)) s))
  page_next room a s some enough = ap (page room) (listing_next mode a s some) ∙ rw (le-leb (length (line_of mode a (window s))) room enough) refl

  -- where there is not, none is
  pub page_full : (room a : ℕ) (s : List ℕ) → 1 ≤ length s → room < length (line_of mode a (window s)) → page room (listing mode a s) ≡ []
  page_full room a s some small = ap (page room) (listing_next mode a s some) ∙ rw (lt-leb (length (line_of mode a (window s))) room small) refl

  -- a page of no bytes
  pub page_none : (room a : ℕ) (s : List ℕ) → length s ≡ 0 → page room (listing mode a s) ≡ []
  unfolding listing
  page_none room a [] none = refl
  page_none room a (b ∷ s) none = absurd (omega arith)

  -- the bytes of a row are as many as it passes
  pub passed_bytes : (s : List ℕ) → 1 ≤ length s → length (take (passed_of mode (window s)) s) ≡ passed_of mode (window s)
  passed_bytes s some = omega (arith, passed_within mode s some, length-take (passed_of mode (window s)) s)

  -- a page on which the first line fits passes some
  pub page_some : (room a : ℕ) (s : List ℕ) → 1 ≤ length s → length (line_of mode a (window s)) ≤ room → 1 ≤ length (joined (page room (listing mode a s)))
  page_some room a s some enough =
      let p = passed_of mode (window s) in
      let rest = page (room - length (line_of mode a (window s))) (listing mode (a + p) (drop p s)) in
      omega (arith, ap (λ (rs : List Row). length (joined rs)) (page_next room a s some enough), length-append (take p s) (joined rest), passed_bytes s some, passed_least mode (window s))

  -- a page, and the lines of what its rows do not pass, are all lines
  abbrev pub Splits : ℕ → List ℕ → List Row → Type 0
  Splits a s rows = printed (listing mode a s) ≡ printed rows ++ printed (listing mode (a + length (joined rows)) (drop (length (joined rows)) s))

  splits_none : (a : ℕ) (s : List ℕ) → Splits a s []
  splits_none a s = let e : a ≡ a + 0 = omega arith in ap (λ (k : ℕ). printed (listing mode k s)) e

  splits_next : (a : ℕ) (s : List ℕ) (rows : List Row) → 1 ≤ length s → Splits (a + passed_of mode (window s)) (drop (passed_of mode (window s)) s) rows → Splits a s (row_at mode a s ∷ rows)
  splits_next a s rows some rest =
      let p = passed_of mode (window s) in
      let n = length (joined rows) in
      let size : length (joined (row_at mode a s ∷ rows)) ≡ p + n = length-append (take p s) (joined rows) ∙ ap (λ (k : ℕ). k + n) (passed_bytes s some) in
      let onward : a + p + n ≡ a + length (joined (row_at mode a s ∷ rows)) = omega (arith, size) in
      let beyond = ap (λ (k : ℕ). printed (listing mode k (drop n (drop p s)))) onward ∙ ap (λ (l : List ℕ). printed (listing mode (a + length (joined (row_at mode a s ∷ rows))) l)) (drop-drop n p s ∙ ap (λ (k : ℕ). drop k s) (sym size)) in
      ap printed (listing_next mode a s some) ∙ ap (λ (l : List ℕ). line_of mode a (window s) ++ l) (rest ∙ ap (λ (l : List ℕ). printed rows ++ l) beyond) ∙ sym (append_assoc (line_of mode a (window s)) (printed rows) _)

  -- whether there is room for the first line; `shorter` is the same of fewer bytes
  splits_by : (t : Bool) (room a : ℕ) (s : List ℕ) → leb (length (line_of mode a (window s))) room ≡ t → 1 ≤ length s → ((room a : ℕ) (l : List ℕ) → length l < length s → Splits a l (page room (listing mode a l))) → Splits a s (page room (listing mode a s))
  splits_by true room a s t some shorter =
      let p = passed_of mode (window s) in
      let left = room - length (line_of mode a (window s)) in
      let rest = shorter left (a + p) (drop p s) (omega (arith, length-drop p s, passed_least mode (window s))) in
      subst (Splits a s) (sym (page_next room a s some (leb-true (length (line_of mode a (window s))) room t))) (splits_next a s (page left (listing mode (a + p) (drop p s))) some rest)
  splits_by false room a s t some shorter = subst (Splits a s) (sym (page_full room a s some (leb-false (length (line_of mode a (window s))) room t))) (splits_none a s)

  splits_at : (room a : ℕ) (s : List ℕ) → ((room a : ℕ) (l : List ℕ) → length l < length s → Splits a l (page room (listing mode a l))) → Splits a s (page room (listing mode a s))
  splits_at room a [] shorter = subst (Splits a []) (sym (page_none room a [] refl)) (splits_none a [])
  splits_at room a (b ∷ s) shorter = splits_by (leb (length (line_of mode a (window (b ∷ s)))) room) room a (b ∷ s) refl (omega arith) shorter

  splits : (n room a : ℕ) (s : List ℕ) → length s < n → Splits a s (page room (listing mode a s))
  splits zero room a s enough = absurd (omega arith)
  splits (suc n) room a s enough = splits_at room a s (λ room a l fewer. splits n room a l (omega arith))

  -- what is printed page by page is the whole listing
  pub page_printed : (room a : ℕ) (s : List ℕ) → Splits a s (page room (listing mode a s))
  page_printed room a s = splits (suc (length s)) room a s (omega arith)

  -- a page's lines fit
  fits_by : (t : Bool) (room : ℕ) (r : Row) (rs : List Row) → leb (length r.line) room ≡ t → length (printed (page (room - length r.line) rs)) ≤ room - length r.line → length (printed (page room (r ∷ rs))) ≤ room
  fits_by true room r rs t rest = rw t (omega (arith, leb-true (length r.line) room t, rest, length-append r.line (printed (page (room - length r.line) rs))))
  fits_by false room r rs t rest = rw t (omega arith)

  page_fits : (rs : List Row) (room : ℕ) → length (printed (page room rs)) ≤ room
  page_fits [] room = omega arith
  page_fits (r ∷ rs) room = fits_by (leb (length r.line) room) room r rs refl (page_fits rs (room - length r.line))

  -- and it passes no more than there is
  passes_by : (t : Bool) (room : ℕ) (r : Row) (rs : List Row) → leb (length r.line) room ≡ t → length (joined (page (room - length r.line) rs)) ≤ length (joined rs) → length (joined (page room (r ∷ rs))) ≤ length (joined (r ∷ rs))
  passes_by true room r rs t rest = rw t (omega (arith, rest, length-append r.bytes (joined rs), length-append r.bytes (joined (page (room - length r.line) rs))))
  passes_by false room r rs t rest = rw t (omega arith)

  page_passes : (rs : List Row) (room : ℕ) → length (joined (page room rs)) ≤ length (joined rs)
  page_passes [] room = omega arith
  page_passes (r ∷ rs) room = passes_by (leb (length r.line) room) room r rs refl (page_passes rs (room - length r.line))

  -- what is answered: a count that fits, and no more bytes than the image has from the address on
  module _ (image : List ℕ) (origin address : ℕ) (out : List ℕ) where
    abbrev fits : Bool
    fits = leb (length (line_of mode address (window_at image origin address))) (length out)

    pub rows_count : (rows_outcome mode image origin address out).count ≤ length out
    rows_count =
        let s = drop (address - origin) image in
        chosen (λ (o : Outcome). o.count ≤ length out) (wrong_size image origin) _ _ (omega arith)
        (chosen (λ (o : Outcome). o.count ≤ length out) (outside image origin address) _ _ (omega arith)
        (chosen (λ (o : Outcome). o.count ≤ length out) fits _ _ (page_fits (listing mode address s) (length out)) (omega arith)))

    pub rows_passed : (rows_outcome mode image origin address out).passed ≤ length image - (address - origin)
    rows_passed =
        let s = drop (address - origin) image in
        let most : length (joined (page (length out) (listing mode address s))) ≤ length image - (address - origin) = omega (arith, page_passes (listing mode address s) (length out), ap length (bytes_joined mode address s), length-drop (address - origin) image) in
        chosen (λ (o : Outcome). o.passed ≤ length image - (address - origin)) (wrong_size image origin) _ _ (omega arith)
        (chosen (λ (o : Outcome). o.passed ≤ length image - (address - origin)) (outside image origin address) _ _ (omega arith)
        (chosen (λ (o : Outcome). o.passed ≤ length image - (address - origin)) fits _ _ most (omega arith)))

    -- where rows are written they pass some
    some_by : (t : Bool) → fits ≡ t → 1 ≤ length (drop (address - origin) image) → (cond t (written (page_at mode image origin address out) out) (outcome 4 0 0 out)).number ≡ 0 → 1 ≤ (cond t (written (page_at mode image origin address out) out) (outcome 4 0 0 out)).passed
    some_by true e inside done = page_some (length out) address (drop (address - origin) image) inside (leb-true _ (length out) e)
    some_by false e inside done = absurd (omega (arith, done))

    pub rows_some : 1 ≤ length (drop (address - origin) image) → (rows_outcome mode image origin address out).number ≡ 0 → 1 ≤ (rows_outcome mode image origin address out).passed
    rows_some inside =
        chosen (λ (o : Outcome). o.number ≡ 0 → 1 ≤ o.passed) (wrong_size image origin) _ _ (λ done. absurd (omega (arith, done)))
        (chosen (λ (o : Outcome). o.number ≡ 0 → 1 ≤ o.passed) (outside image origin address) _ _ (λ done. absurd (omega (arith, done)))
        (some_by fits refl inside))
