-- The line has room for the row, and the part of it that is given is the row's line itself.
use Rattle.std.proofs.Common.{◌≡◌, arith, refl, rules, Err}
use Rattle.listing.specs.declared.ListingRefusal.{ListingRefusal}
use Rattle.writer.proofs.Laws.{filled, counted, size}
use Rattle.writer.proofs.Given.{fitted, refused, becomes}
use Rattle.image.proofs.Placed.{placed}
use Rattle.lines.proofs.Fits.{fits}
use Rattle.lines.proofs.row.Goals as goal

pub slice_bounds-line-end : goal.slice_bounds-line-end
slice_bounds-line-end c =
    let room = fits c.args.mode c.in_ok-image.image c.in_ok-place.place in
    let w = c.row_in-count.ensures.wrote in
    omega (arith, counted w room, room, size w)

pub slice_bounds-give-end : goal.slice_bounds-give-end
slice_bounds-give-end c = filled c.row_in-count.ensures.wrote (fits c.args.mode c.in_ok-image.image c.in_ok-place.place)

pub returns-in_err-count : goal.returns-in_err-count
returns-in_err-count c =
    let room = fits c.args.mode c.in_ok-image.image c.in_ok-place.place in
    let w = c.row_in-count.ensures.wrote in
    let at = placed c.in_ok-image.ensures.ok_part c.new.ensures.refused c.new.ensures.made c.in_ok-place.ensures.ok_part c.place_of.ensures.refused c.place_of.ensures.found in
    let has = refused w room _ c.give.ensures.answer c.in_err-count.ensures.ok_part in
    let answer : c.from_residual-in_err-count.result ≡ Err ListingRefusal.NoRoom = search rules in
    rw (← at.bytes_are, ← at.origin_is, at.size, at.inside, at.place_is, ← at.found, has) (rw (answer, rw has at (becomes w room _ c.give.ensures.bytes)) refl)

pub returns : goal.returns
returns c =
    let room = fits c.args.mode c.in_ok-image.image c.in_ok-place.place in
    let w = c.row_in-count.ensures.wrote in
    let at = placed c.in_ok-image.ensures.ok_part c.new.ensures.refused c.new.ensures.made c.in_ok-place.ensures.ok_part c.place_of.ensures.refused c.place_of.ensures.found in
    let has = fitted w room _ c.give.ensures.answer c.in_ok-count.ensures.ok_part in
    rw (← at.bytes_are, ← at.origin_is, at.size, at.inside, at.place_is, ← at.found, has.0) (rw (has.1, c.row_in-count.ensures.passed, rw has.0 at (becomes w room _ c.give.ensures.bytes)) refl)
