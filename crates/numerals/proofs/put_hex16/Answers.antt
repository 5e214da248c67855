-- Two bytes, the high one first.
use Rattle.std.proofs.Common.{◌≡◌, ◌/◌, ◌%◌, arith, get_or}
use Rattle.std.specs.Int.{w16, to_be_bytes}
use Rattle.wording.specs.Digits.{hex16}
use Rattle.writer.proofs.Laws.{◌⟫◌}
use Rattle.numerals.proofs.put_hex16.Goals as goal

pub returns : goal.returns
unfolding hex16
returns c =
    let high : get_or (to_be_bytes w16 c.args.n) 0 0 ≡ c.args.n / 256 = omega arith in
    let low : get_or (to_be_bytes w16 c.args.n) 1 0 ≡ c.args.n % 256 = omega arith in
    rw (c.to_be_bytes.ensures, high, low) at (c.put_hex8.ensures ⟫ c.put_hex8-2.ensures)
