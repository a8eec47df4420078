-- The points of the look-ups of one walk, kept by slots (this project's own).
use Rattle.std.specs.Prelude.{ℕ, ◌==◌, List, map, if◌then◌else◌}
use Rattle.hook_reader.specs.declared.slot_points.Mark.{Mark}

-- a mark of another walk counts as 0
abbrev pub point_in : ℕ → Mark → ℕ
point_in walk mark = if mark.walk == walk then mark.point else 0

abbrev pub points_in : ℕ → List Mark → List ℕ
points_in walk marks = map (point_in walk) marks
