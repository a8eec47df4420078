use Rattle.std.proofs.Common.{◌≡◌, ◌≤◌, ◌+◌, ◌<◌, ◌^◌, length}
use Rattle.batch_walk.specs.Walked.{passed_count}
use Rattle.batch_walk.proofs.walk.count_passed.Given as goal

abbrev pub invariant-loop-end : goal.invariant-loop-end
invariant-loop-end l = record {
  count : l.passed + passed_count l.end-iterator ≡ passed_count l.fn.ends;
  within : l.passed + length l.end-iterator ≤ length l.fn.ends;
  fits : length l.fn.ends < 2 ^ 64;
  next : (goal.iterator-loop-end).can_next l.end-iterator;
  finite : (goal.iterator-loop-end).is_finite l.end-iterator;
}
