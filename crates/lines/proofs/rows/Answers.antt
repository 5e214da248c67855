-- The refusals in their order, then the rows: the pass is over at the image's end, or at a line that does not fit.
use Rattle.std.proofs.Common.{arith, rules, ◌≡◌, ◌-◌, ℕ, List, length, drop, refl, sym, Ok, Err}
use mathlib.Core.Logic.{inl, inr}
use borrow.Author.Tests.{leb-true, leb-false}
use mathlib.Core.Path.{◌∙◌, subst}
use Rattle.writer.proofs.Laws.{counted, size}
use Rattle.image.specs.Places.{window}
use Rattle.image.proofs.Placed.{placed}
use Rattle.listing.specs.declared.ListingRefusal.{ListingRefusal}
use Rattle.listing.specs.Answers.{told_by}
use Rattle.listing.specs.Page.{rows_outcome}
use Rattle.listing.proofs.Passed.{passed_least, passed_most}
use Rattle.lines.proofs.Filling.{Over, begins, goes_on, ends_count, ends_passed, ends_bytes, full, none_passed, some_passed}
use Rattle.lines.proofs.rows.Goals as goal
use Rattle.lines.proofs.rows.Goals.{then-loop-place-test+else-has_room, else-loop-place-test}

pub loop-place-init : goal.loop-place-init
loop-place-init c =
    let i = c.in_ok-image.image in
    let inside = rw c.in_ok-start.ensures.ok_part at c.place_of.ensures.inside in
    (refl, rw (c.new-writer.ensures.bytes, c.new-writer.ensures.front) (begins c.args.mode i.bytes.now i.origin c.in_ok-start.start c.args.out.now (omega (arith, inside))))

pub overflow_sub-writer : goal.overflow_sub-writer
overflow_sub-writer c = let f = c.loop-place.invariant.1 in omega (arith, counted f.wrote f.fits, f.fits, size f.wrote)

pub overflow_add-place : goal.overflow_add-place
overflow_add-place c =
    let i = c.in_ok-image.image in
    record { fits = omega (arith, c.put_row-passed.ensures.passed, passed_most c.args.mode (window (drop c.loop-place.place i.bytes.now)), c.loop-place-test.true, i.fits) }

pub loop-place-smaller : goal.loop-place-smaller
loop-place-smaller c =
    omega (arith, c.put_row-passed.ensures.passed, passed_least c.args.mode (window (drop c.loop-place.place c.in_ok-image.image.bytes.now)), c.loop-place-test.true)

pub loop-place-preserved : goal.loop-place-preserved
loop-place-preserved c =
    let i = c.in_ok-image.image in
    let w = c.loop-place.writer in
    let room = leb-true _ (length w.buf.now - w.at) (sym c.has_room.ensures ∙ c.if-has_room.true) in
    let f = c.loop-place.invariant.1 in
    let more = goes_on c.args.mode i.bytes.now i.origin c.in_ok-start.start c.args.out.now f c.loop-place-test.true (omega (arith, room, size f.wrote)) c.put_row-passed.ensures.passed c.put_row-passed.ensures.wrote.wrote in
    (c.put_row-passed.ensures.wrote.same ∙ c.loop-place.invariant.0, more)

pub returns-then-place-start : goal.returns-then-place-start
returns-then-place-start c =
    let mode = c.args.mode in
    let i = c.in_ok-image.image in
    let start = c.in_ok-start.start in
    let old = c.args.out.now in
    let l = c.loop-place in
    let at = placed c.in_ok-image.ensures.ok_part c.new.ensures.refused c.new.ensures.made c.in_ok-start.ensures.ok_part c.place_of.ensures.refused c.place_of.ensures.found in
    let some = rw c.in_ok-start.ensures.ok_part at c.place_of.ensures.inside in
    let over : Over mode i.bytes.now i.origin start old l.writer.at l.place =
    elim c.loop-place-test.branch [
      | then-loop-place-test+else-has_room w ↦ inr (w.loop-place-test.true, omega (arith, leb-false _ (length l.writer.buf.now - l.writer.at) (sym w.has_room.ensures ∙ w.if-has_room.false), size l.invariant.1.wrote))
      | else-loop-place-test w ↦ inl w.loop-place-test.false
    ] in
    let none = none_passed mode i.bytes.now i.origin start old some (omega (arith, ends_passed mode i.bytes.now i.origin start old l.invariant.1 over, c.if-place-start.true)) in
    let same = rw (full mode i.bytes.now i.origin start old some none) at (ends_bytes mode i.bytes.now i.origin start old l.invariant.1 over) in
    subst (λ (b : List ℕ). told_by (Err ListingRefusal.NoRoom) b ≡ rows_outcome mode c.args.image.now c.args.origin c.args.address old) {x = l.writer.buf.now} (search rules)
    (rw (← at.bytes_are, ← at.origin_is, at.size, at.inside, at.place_is, ← at.found, none) (rw same refl))

pub returns : goal.returns
returns c =
    let mode = c.args.mode in
    let i = c.in_ok-image.image in
    let start = c.in_ok-start.start in
    let old = c.args.out.now in
    let l = c.loop-place in
    let at = placed c.in_ok-image.ensures.ok_part c.new.ensures.refused c.new.ensures.made c.in_ok-start.ensures.ok_part c.place_of.ensures.refused c.place_of.ensures.found in
    let some = rw c.in_ok-start.ensures.ok_part at c.place_of.ensures.inside in
    let over : Over mode i.bytes.now i.origin start old l.writer.at l.place =
    elim c.loop-place-test.branch [
      | then-loop-place-test+else-has_room w ↦ inr (w.loop-place-test.true, omega (arith, leb-false _ (length l.writer.buf.now - l.writer.at) (sym w.has_room.ensures ∙ w.if-has_room.false), size l.invariant.1.wrote))
      | else-loop-place-test w ↦ inl w.loop-place-test.false
    ] in
    let passed = ends_passed mode i.bytes.now i.origin start old l.invariant.1 over in
    let room = some_passed mode i.bytes.now i.origin start old some (omega (arith, passed, l.invariant.1.further, c.if-place-start.false)) in
    subst (λ (b : List ℕ). told_by (Ok (record { count = l.writer.at; passed = l.place - start })) b ≡ rows_outcome mode c.args.image.now c.args.origin c.args.address old) {x = l.writer.buf.now} (search rules)
    (rw (← at.bytes_are, ← at.origin_is, at.size, at.inside, at.place_is, ← at.found, room)
    (rw (ends_count mode i.bytes.now i.origin start old l.invariant.1 over, passed, ends_bytes mode i.bytes.now i.origin start old l.invariant.1 over) refl))
