use Rattle.std.proofs.Common.{length, ◌-◌, ◌<◌, ◌≤◌, ◌+◌, ℕ}
use Rattle.std.specs.List.{count_by}
use Rattle.act_registry.specs.Names.{IsPlaceFor, has_name}
use Rattle.act_registry.proofs.names.lowest_free.Given as goal

abbrev pub invariant-loop-at : goal.invariant-loop-at
invariant-loop-at l =
    (1 ≤ l.free) × (l.free ≤ l.at + 1) × IsPlaceFor l.kind l.free l.names l.at
    × ((lower : ℕ) → 1 ≤ lower → lower < l.free → 0 < count_by (has_name l.kind lower) l.names)

abbrev pub decreases-loop-at : goal.decreases-loop-at
decreases-loop-at l = length l.names - l.at
