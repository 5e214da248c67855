-- The rows pass some bytes, and no more than the image has from their place on.
use Rattle.std.proofs.Common.{arith, ◌-◌, length-drop, refl}
use Rattle.table.specs.declared.Mode.{Mode}
use Rattle.listing.proofs.Page.{rows_passed, rows_some}
use Rattle.list.proofs.print.Goals as goal

pub overflow_add-place : goal.overflow_add-place
overflow_add-place g c =
    let passed = rw (← c.in-Ok.ensures) at (rows_passed Mode.Rust c.args.image.now 0 c.loop-place.place c.loop-place.page) in
    record { fits = omega (arith, passed, c.requires, c.loop-place-test.true) }

pub loop-place-smaller : goal.loop-place-smaller
loop-place-smaller g c =
    let some = rw (← c.in-Ok.ensures) at (rows_some Mode.Rust c.args.image.now 0 c.loop-place.place c.loop-place.page (omega (arith, length-drop (c.loop-place.place - 0) c.args.image.now, c.loop-place-test.true))) in
    omega (arith, some refl, c.loop-place-test.true)

pub loop-place-preserved : goal.loop-place-preserved
loop-place-preserved g c =
    let passed = rw (← c.in-Ok.ensures) at (rows_passed Mode.Rust c.args.image.now 0 c.loop-place.place c.loop-place.page) in
    omega (arith, passed, c.loop-place-test.true)
