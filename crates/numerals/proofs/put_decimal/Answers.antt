-- The digits at the powers, one behind the other, and the last.
use Rattle.std.proofs.Common.{arith, ◌≡◌}
use mathlib.Core.List.{append_assoc}
use Rattle.wording.specs.Digits.{digit_at, decimal}
use Rattle.writer.proofs.Laws.{◌⟫◌, put_none, put_told}
use Rattle.numerals.proofs.Each.{each_turn}
use Rattle.numerals.proofs.put_decimal.Goals as goal

pub loop-p-init : goal.loop-p-init
loop-p-init c = put_none _

pub loop-p-preserved : goal.loop-p-preserved
loop-p-preserved c = each_turn (digit_at c.args.n) _ _ 0 c.loop-p-test.true c.loop-p.invariant c.put_digit.ensures

pub returns : goal.returns
unfolding decimal
returns c =
    let all : c.loop-p.p-index ≡ 4 = omega arith in
    let w = rw all at c.loop-p.invariant in
    rw (← c.digit.ensures) (put_told (simp append_assoc) (w ⟫ c.put.ensures))
