use Rattle.std.proofs.Common.{◌<◌, ◌≤◌}
use Rattle.desk_needs.specs.declared.pool.Pool.{Pool}
use Rattle.shared_hook.specs.Short.{place_of, need_of}
use Rattle.shared_hook.specs.Views.{count_of}
use Rattle.shared_hook.proofs.short.short_pool.Given as goal

-- those before have what is needed
abbrev pub invariant-loop-place : goal.invariant-loop-place
invariant-loop-place l = (pool : Pool) → place_of pool < l.place → need_of l.needs pool ≤ count_of l.free pool
