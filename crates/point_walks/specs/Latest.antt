-- The last point of each mask and each action in one walk, and the bounds of its points (this project's own).
use Rattle.std.specs.Prelude.{ℕ, ◌&&◌, nat_le, Bool, true, List, [], ◌∷◌}
use Rattle.std.specs.List.{list_all}
use Rattle.point_walks.specs.declared.at_points.Thing.{Thing}
use Rattle.point_walks.specs.declared.at_points.Thing.TheVariants as things
use Rattle.point_walks.specs.declared.latest.LatestPoints.{LatestPoints}
use Rattle.point_walks.specs.declared.bounds.Bounds.{Bounds}
use Rattle.point_walks.specs.Lasts.{last_of}

abbrev pub latest_of : LatestPoints → Thing → ℕ
latest_of latest things.Tables = 0
latest_of latest (things.Mask serial) = last_of latest.masks serial
latest_of latest (things.Action serial) = last_of latest.actions serial

-- the first is no lower than the floor, and none is lower than the first or above the ceiling
abbrev pub are_within : Bounds → List ℕ → Bool
are_within bounds [] = true
are_within bounds (first ∷ points) = nat_le bounds.floor first
    && list_all (λ (point : ℕ). nat_le first point && nat_le point bounds.ceiling) (first ∷ points)
