-- No line is longer than 58 bytes, and no row passes more than four: numbers of 32 bits.
use Rattle.std.proofs.Common.{arith}
use Rattle.listing.proofs.Longest.{count_most, passed_over_most}
use Rattle.exports.proofs.rows.z80_row.Goals as goal

pub overflow_cast-count : goal.overflow_cast-count
overflow_cast-count c =
    let few = rw (← c.row.ensures) at (count_most c.in-Ok.mode c.args.image.now c.args.origin c.args.address c.args.out.now (λ j. (c.type_inv.image j).fits)) in
    record { fits = omega (arith, c.tell-told.ensures.count, few) }

pub overflow_cast-passed : goal.overflow_cast-passed
overflow_cast-passed c =
    let few = rw (← c.row.ensures) at (passed_over_most c.in-Ok.mode c.args.image.now c.args.origin c.args.address c.args.out.now) in
    record { fits = omega (arith, c.tell-told.ensures.passed, few) }
