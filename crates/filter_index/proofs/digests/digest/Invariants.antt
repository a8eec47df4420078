use Rattle.std.proofs.Common.{◌≡◌, ◌%◌, ◌^◌}
use Rattle.filter_index.specs.Digests.{weighed}
use Rattle.filter_index.proofs.digests.digest.Given as goal

abbrev pub invariant-loop-k : goal.invariant-loop-k
invariant-loop-k l = l.sum ≡ weighed l.words l.k % 2 ^ 64
