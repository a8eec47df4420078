-- The bounds of a walk that is on its way (this project's own).
use Rattle.std.specs.Prelude.{ℕ, max, Bool, true}
use Rattle.point_walks.specs.declared.at_points.Thing.{Thing}
use Rattle.point_walks.specs.declared.at_points.Thing.TheVariants as things
use Rattle.point_walks.specs.Latest.{latest_of}
use Rattle.point_walks.specs.Visits.{is_same}
use Rattle.fate_search.specs.declared.least_points.LeastPoints.{LeastPoints}

-- the least point at which something may be asked for
abbrev pub least_of : LeastPoints → Thing → ℕ
least_of bounds thing = max bounds.floor (latest_of bounds.latest thing)

-- the tables bound all that follows, a mask or an action itself
abbrev pub binds : Thing → Thing → Bool
binds things.Tables other = true
binds thing other = is_same thing other
