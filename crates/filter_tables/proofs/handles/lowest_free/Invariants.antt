use Rattle.std.proofs.Common.{◌-◌, ◌≡◌, ◌<◌, ◌≤◌, ◌+◌, ℕ, length, get_or}
use Rattle.filter_tables.proofs.handles.lowest_free.Given as goal

-- below `low` each handle is as high as its place, and from `high` on each is higher
abbrev pub invariant-loop-low : goal.invariant-loop-low
invariant-loop-low l =
    (l.low ≤ l.high) × (l.high ≤ length l.handles) × ((k d : ℕ) → k < l.low → get_or l.handles k d ≡ k + 1)
    × ((k d : ℕ) → l.high ≤ k → k < length l.handles → k + 1 < get_or l.handles k d)

abbrev pub decreases-loop-low : goal.decreases-loop-low
decreases-loop-low l = l.high - l.low
