use Rattle.std.proofs.Common.{◌≡◌, ◌%◌, ◌^◌}
use Rattle.filter_index.specs.Sieves.{weighed_at}
use Rattle.filter_index.proofs.sieve.weigh.Given as goal

abbrev pub invariant-loop-n : goal.invariant-loop-n
invariant-loop-n l = l.sum ≡ weighed_at l.places l.words l.key l.n % 2 ^ 64
