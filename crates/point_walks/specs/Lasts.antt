-- The last point of each serial in one walk (this project's own).
use Rattle.std.specs.Prelude.{ℕ, ◌==◌, List, get_or, if◌then◌else◌}
use Rattle.point_walks.specs.declared.last_points.LastPoint.{LastPoint}

-- a point that was set in that walk, or 0
abbrev pub in_walk : ℕ → LastPoint → ℕ
in_walk walk last = if last.walk == walk then last.point else 0

-- the last point of a serial, or 0
abbrev pub last_of : List ℕ → ℕ → ℕ
last_of lasts serial = get_or lasts serial 0
