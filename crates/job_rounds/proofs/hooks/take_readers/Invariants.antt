use Rattle.std.proofs.Common.{◌≡◌, ◌+◌, ◌++◌, length}
use Rattle.std.specs.Prelude.{vec_len, vec_capacity}
use Rattle.job_rounds.proofs.hooks.take_readers.Given as goal

abbrev pub invariant-loop : goal.invariant-loop
invariant-loop l = record {
  taken : l.readers.items ++ l.passes.left.items ≡ l.initial.readers.items ++ l.initial.passes.left.items;
  many : length l.readers.items ≡ length l.initial.readers.items + l.counter;
  long : vec_len l.readers ≡ vec_len l.initial.readers + l.counter;
  same : vec_capacity l.readers ≡ vec_capacity l.initial.readers;
}
