use Rattle.std.proofs.Common.{arith}
use Rattle.filter_index.proofs.sieve.Sieve.new.Goals as goal

pub invariant_of-result : goal.invariant_of-result
invariant_of-result c = (omega arith, λ j here. (c.choose-count.ensures.chosen j here).0)
