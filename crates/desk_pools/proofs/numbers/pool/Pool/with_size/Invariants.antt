use Rattle.std.proofs.Common.{◌≡◌, ◌≤◌, vec_capacity}
use Rattle.std.specs.List.{range_with_len}
use Rattle.desk_pools.proofs.numbers.pool.Pool.with_size.Given as goal

abbrev pub invariant-loop-number : goal.invariant-loop-number
invariant-loop-number l = record {
  items : l.free.items ≡ range_with_len 0 l.number;
  capacity : l.size ≤ vec_capacity l.free;
}
