-- What stands in parentheses is the text that the closure writes.
use Rattle.std.proofs.Common.{rules}
use Rattle.operands.proofs.put_operand.Goals as goal

pub returns-in-Address : goal.returns-in-Address
returns-in-Address c = rw c.in-Address.is (c.put_parenthesized.ensures _ (λ before after wrote. search rules))

pub returns-in-IOAddress : goal.returns-in-IOAddress
returns-in-IOAddress c = rw c.in-IOAddress.is (c.put_parenthesized-in-IOAddress.ensures _ (λ before after wrote. search rules))

pub returns-in-RegAddr : goal.returns-in-RegAddr
returns-in-RegAddr c = rw c.in-RegAddr.is (c.put_parenthesized-in-RegAddr.ensures _ (λ before after wrote. search rules))

pub returns-in-RegIOAddr : goal.returns-in-RegIOAddr
returns-in-RegIOAddr c = rw c.in-RegIOAddr.is (c.put_parenthesized-in-RegIOAddr.ensures _ (λ before after wrote. search rules))
