-- The first, those behind it, and the brackets.
use Rattle.std.proofs.Common.{◌≡◌, ◌≤◌, ℕ, List, arith, length, take, drop}
use Rattle.opcode.specs.declared.counts.TStates.{TStates}
use Rattle.std.proofs.lemmas.Grind.{common_steps}
use Rattle.opcode.specs.Record.{unfilled}
use Rattle.wording.specs.Text.{next_time}
use Rattle.writer.proofs.Laws.{◌⟫◌, put_none, put_told}
use Rattle.numerals.proofs.Each.{each_turn}
use Rattle.record_text.proofs.Times.{first_and_next}
use Rattle.record_text.proofs.put_times.Goals as goal

five : (t : List TStates) (n : ℕ) → length t ≡ 6 → length (take 5 (drop 1 t)) ≤ n → take n (take 5 (drop 1 t)) ≡ drop 1 t
five t n six all = grind (arith, common_steps)

pub loop-next-init : goal.loop-next-init
loop-next-init c = put_none _

pub loop-next-preserved : goal.loop-next-preserved
loop-next-preserved c = each_turn next_time _ _ unfilled c.loop-next-test.true c.loop-next.invariant (c.put_bytes.ensures ⟫ (rw c.from-in-loop-next.ensures at c.put_decimal-in-loop-next.ensures))

pub returns : goal.returns
returns c =
    let six : length c.args.t ≡ 6 = omega arith in
    let all = rw (five c.args.t _ six c.loop-next-test.false) at c.loop-next.invariant in
    put_told (first_and_next c.args.t six) (c.put.ensures ⟫ (rw c.from.ensures at c.put_decimal.ensures) ⟫ all ⟫ c.put-2.ensures)
