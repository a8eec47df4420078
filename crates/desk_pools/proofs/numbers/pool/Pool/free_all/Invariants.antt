use Rattle.std.proofs.Common.{◌≡◌, ◌++◌, take, vec_capacity}
use Rattle.desk_pools.proofs.numbers.pool.Pool.free_all.Given as goal

abbrev pub invariant-loop-at : goal.invariant-loop-at
invariant-loop-at l = record {
  items : l.free.items ≡ l.initial.free.items ++ take l.at l.left.items;
  capacity : vec_capacity l.free ≡ vec_capacity l.initial.free;
}
