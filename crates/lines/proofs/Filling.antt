-- Rows written one behind the other: what holds before each, and when no more are. Assumes nothing.
use mathlib.Core.Path.{◌≡◌, refl, sym, ap, subst, ◌∙◌}
use mathlib.Core.Bool.{Bool, true, false}
use mathlib.Core.Logic.{◌⊎◌, inl, inr}
use mathlib.Core.List.{List, [], ◌∷◌, ◌++◌, append_assoc, append-nil}
use Prim.Native.Nat.{ℕ, ◌+◌, ◌-◌, ◌<◌, ◌≤◌}
use native.Mathlib.Omega.{arith}
use lib.Dec.{leb}
use lib.ListN.{length, take, drop, length-append, length-drop}
use lib.Seq.{drop-drop}
use borrow.Author.Tests.{leb-true, leb-false}
use Rattle.table.specs.declared.Mode.{Mode}
use Rattle.writer.specs.Wrote.{Wrote}
use Rattle.writer.proofs.Laws.{◌▸◌, none, counted, whole}
use Rattle.image.specs.Places.{window}
use Rattle.listing.specs.Rows.{line_of, passed_of, Row, row_at, listing, printed, joined}
use Rattle.listing.specs.Page.{page}
use Rattle.listing.proofs.Passed.{passed_within}
use Rattle.listing.proofs.Page.{page_next, page_full, page_none, page_some, passed_bytes}

module _ (mode : Mode) where
  module _ (image : List ℕ) (origin start : ℕ) (old : List ℕ) where
    -- the rows from a place on that are written to so much room
    abbrev pub onwards : ℕ → ℕ → List Row
    onwards place room = page room (listing mode (origin + place) (drop place image))

    -- `done` is written, and with what the rows from here on have makes all lines; the bytes passed likewise
    pub record Filling (out : List ℕ) (next place : ℕ) : Type 0 where
      pub done : List ℕ
      pub wrote : Wrote old 0 done out next
      pub fits : length done ≤ length old
      pub inside : place ≤ length image
      pub further : start ≤ place
      pub lines : done ++ printed (onwards place (length old - length done)) ≡ printed (onwards start (length old))
      pub passes : place + length (joined (onwards place (length old - length done))) ≡ start + length (joined (onwards start (length old)))

    -- the image's end is reached, or a line that does not fit
    abbrev pub Over : ℕ → ℕ → Type 0
    Over next place = (length image ≤ place) ⊎ ((place < length image) × (length old - next < length (line_of mode (origin + place) (window (drop place image)))))

    pub begins : start ≤ length image → Filling old 0 start
    begins h =
        let e : length old - 0 ≡ length old = omega arith in
        record {
          done = [];
          wrote = none old 0;
          fits = omega arith;
          inside = h;
          further = omega arith;
          lines = ap (λ (n : ℕ). printed (onwards start n)) e;
          passes = ap (λ (n : ℕ). start + length (joined (onwards start n))) e;
        }

    module _ {out : List ℕ} {next place : ℕ} (f : Filling out next place) (some : place < length image) (room : length (line_of mode (origin + place) (window (drop place image))) ≤ length old - next) where
      abbrev here : List ℕ
      here = drop place image

      abbrev line : List ℕ
      line = line_of mode (origin + place) (window here)

      abbrev passed : ℕ
      passed = passed_of mode (window here)

      reached : next ≡ length f.done
      reached = counted f.wrote f.fits

      any : 1 ≤ length here
      any = omega (arith, length-drop place image)

      size : length (f.done ++ line) ≡ length f.done + length line
      size = length-append f.done line

      -- the rows from here on are this one and those behind it
      split : onwards place (length old - length f.done) ≡ row_at mode (origin + place) here ∷ onwards (place + passed) (length old - length (f.done ++ line))
      split =
          let left : length old - length f.done - length line ≡ length old - length (f.done ++ line) = omega (arith, size) in
          let address : origin + place + passed ≡ origin + (place + passed) = omega arith in
          page_next mode (length old - length f.done) (origin + place) here any (omega (arith, reached, room))
          ∙ ap (λ (n : ℕ). row_at mode (origin + place) here ∷ page n (listing mode (origin + place + passed) (drop passed here))) left
          ∙ ap (λ (a : ℕ). row_at mode (origin + place) here ∷ page (length old - length (f.done ++ line)) (listing mode a (drop passed here))) address
          ∙ ap (λ (l : List ℕ). row_at mode (origin + place) here ∷ page (length old - length (f.done ++ line)) (listing mode (origin + (place + passed)) l)) (drop-drop passed place image)

      behind_it : {new : List ℕ} {behind : ℕ} → Wrote out next line new behind → Filling new behind (place + passed)
      behind_it w =
          let rest = onwards (place + passed) (length old - length (f.done ++ line)) in
          let more = length-append (take passed here) (joined rest) in
          record {
            done = f.done ++ line;
            wrote = f.wrote ▸ w;
            fits = omega (arith, size, room, reached);
            inside = omega (arith, passed_within mode here any, length-drop place image);
            further = omega (arith, f.further);
            lines = append_assoc f.done line (printed rest) ∙ ap (λ (rs : List Row). f.done ++ printed rs) (sym split) ∙ f.lines;
            passes = omega (arith, more, passed_bytes mode here any, ap (λ (rs : List Row). place + length (joined rs)) split, f.passes);
          }

      pub goes_on : {new : List ℕ} {behind p : ℕ} → p ≡ passed → Wrote out next line new behind → Filling new behind (place + p)
      goes_on {new = l} {behind = j} e w = subst (λ (n : ℕ). Filling l j (place + n)) (sym e) (behind_it w)

    module _ {out : List ℕ} {next place : ℕ} (f : Filling out next place) (over : Over next place) where
      -- no row is left, or no room
      none_left : Over next place → onwards place (length old - length f.done) ≡ []
      none_left (inl end) = page_none mode (length old - length f.done) (origin + place) (drop place image) (omega (arith, length-drop place image))
      none_left (inr (some, full)) = page_full mode (length old - length f.done) (origin + place) (drop place image) (omega (arith, length-drop place image)) (omega (arith, full, counted f.wrote f.fits))

      all : f.done ≡ printed (onwards start (length old))
      all = sym (append-nil f.done) ∙ ap (λ (rs : List Row). f.done ++ printed rs) (sym (none_left over)) ∙ f.lines

      pub ends_count : next ≡ length (printed (onwards start (length old)))
      ends_count = counted f.wrote f.fits ∙ ap length all

      pub ends_passed : place - start ≡ length (joined (onwards start (length old)))
      ends_passed = omega (arith, f.passes, f.further, ap (λ (rs : List Row). length (joined rs)) (none_left over))

      pub ends_bytes : out ≡ printed (onwards start (length old)) ++ drop (length (printed (onwards start (length old)))) old
      ends_bytes = whole f.wrote f.fits ∙ ap (λ (l : List ℕ). l ++ drop (length l) old) all

    -- whether the first line fits, by the bytes that the page passes
    module _ (some : start < length image) where
      abbrev front : List ℕ
      front = drop start image

      abbrev first : ℕ
      first = length (line_of mode (origin + start) (window front))

      front_any : 1 ≤ length front
      front_any = omega (arith, length-drop start image)

      pub full : leb first (length old) ≡ false → onwards start (length old) ≡ []
      full e = page_full mode (length old) (origin + start) front front_any (leb-false first (length old) e)

      passes_some : first ≤ length old → 1 ≤ length (joined (onwards start (length old)))
      passes_some room = page_some mode (length old) (origin + start) front front_any room

      none_by : (t : Bool) → leb first (length old) ≡ t → length (joined (onwards start (length old))) ≡ 0 → t ≡ false
      none_by true e none = absurd (omega (arith, passes_some (leb-true first (length old) e), none))
      none_by false e none = refl

      pub none_passed : length (joined (onwards start (length old))) ≡ 0 → leb first (length old) ≡ false
      none_passed none = none_by (leb first (length old)) refl none

      some_by : (t : Bool) → leb first (length old) ≡ t → 1 ≤ length (joined (onwards start (length old))) → t ≡ true
      some_by true e any = refl
      some_by false e any = absurd (omega (arith, ap (λ (rs : List Row). length (joined rs)) (full e), any))

      pub some_passed : 1 ≤ length (joined (onwards start (length old))) → leb first (length old) ≡ true
      some_passed any = some_by (leb first (length old)) refl any
