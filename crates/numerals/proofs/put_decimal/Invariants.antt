-- After each turn the digits at the powers so far are written.
use Rattle.std.proofs.Common.{take}
use Rattle.wording.specs.Digits.{digit_at}
use Rattle.wording.specs.Text.{each}
use Rattle.writer.specs.Puts.{Puts}
use Rattle.numerals.proofs.put_decimal.Given as goal

abbrev pub invariant-loop-p : goal.invariant-loop-p
invariant-loop-p l = Puts l.initial.out (each (digit_at l.n) (take l.p-index l.p-items)) l.out
