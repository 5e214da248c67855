-- No text is longer than 52 bytes, so that its count is one of 32 bits.
use Rattle.std.proofs.Common.{arith}
use Rattle.wording.proofs.Longest.{text_count}
use Rattle.exports.proofs.texts.z80_text.Goals as goal

pub overflow_cast-count : goal.overflow_cast-count
overflow_cast-count c =
    let few = rw (← c.text.ensures) at (text_count c.args.choice c.in-Ok.mode c.args.ins.now (λ j. (c.type_inv.ins j).fits) c.args.out.now) in
    record { fits = omega (arith, c.tell-told.ensures.count, few) }
