-- Between the two stands what the first left.
use Rattle.std.proofs.Common.{rules}
use Rattle.lending.proofs.owns_and_lends.Goals as goal

pub returns : goal.returns
returns g c = (c.first-once.new.arg2, search rules, search rules)
