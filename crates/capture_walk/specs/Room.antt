-- Counts to which more can be added without a sum of 2^64 (this project's own).
use Rattle.std.specs.Prelude.{◌^◌, ◌≤◌}
use Rattle.walk_ends.specs.declared.counts.Count.{Count}

-- for one execution more
abbrev pub HasRoom : Count → Type 0
HasRoom count = (count.packets ≤ 2 ^ 63) × (count.bytes ≤ 2 ^ 63)

-- for all that one walk can run
abbrev pub HasRoomForRun : Count → Type 0
HasRoomForRun count = (count.packets ≤ 2 ^ 62) × (count.bytes ≤ 2 ^ 62)
