-- A turn judges one place.
use Rattle.std.proofs.Common.{sym, ◌∙◌, arith}
use Rattle.std.proofs.lemmas.Grind.{common_steps}
use Rattle.marking.proofs.Turns.{turning_on, turning_stop, turning_end}
use Rattle.map.proofs.Map.first_broken.Goals as goal

pub overflow_add-place : goal.overflow_add-place
overflow_add-place c = record { fits = omega (arith, (turning_on _ _ _ _ c.loop-place.invariant c.loop-place-test.true _ (sym c.judge.ensures ∙ c.in_ok-place.was)).1.upto, c.args.self.now.image.fits) }

pub loop-place-smaller : goal.loop-place-smaller
loop-place-smaller c =
    let t = turning_on _ _ _ _ c.loop-place.invariant c.loop-place-test.true _ (sym c.judge.ensures ∙ c.in_ok-place.was) in
    omega (arith, t.0, t.1.upto)

pub loop-place-preserved : goal.loop-place-preserved
loop-place-preserved c = (turning_on _ _ _ _ c.loop-place.invariant c.loop-place-test.true _ (sym c.judge.ensures ∙ c.in_ok-place.was)).1

pub returns-in_err-place : goal.returns-in_err-place
returns-in_err-place c =
    let stop = turning_stop _ _ _ _ c.loop-place.invariant c.loop-place-test.true _ (sym c.judge.ensures ∙ c.in_err-place.was) in
    grind (arith, common_steps, stop)

pub returns : goal.returns
returns c = sym (turning_end _ _ _ _ c.loop-place.invariant c.loop-place-test.false)
