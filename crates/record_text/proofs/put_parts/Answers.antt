-- Its three parts, one behind the other, each where its bit is set.
use Rattle.std.proofs.Common.{◌<◌, arith, rules}
use Rattle.wording.specs.Text.{text_of}
use Rattle.writer.proofs.Laws.{◌⟫◌}
use Rattle.record_text.proofs.Bits.{bytes_bit, instruction_bit, times_bit}
use Rattle.record_text.proofs.put_parts.Goals as goal

pub returns : goal.returns
unfolding text_of
returns c =
    let byte : c.args.choice < 256 = omega arith in
    rw (← bytes_bit c.args.choice byte, ← instruction_bit c.args.choice byte, ← times_bit c.args.choice byte)
    (c.put_part.ensures _ (λ before after wrote. search rules) ⟫ c.put_part-2.ensures _ (λ before after wrote. search rules) ⟫ c.put_part-3.ensures _ (λ before after wrote. search rules))
