use Rattle.std.proofs.Common.{◌≤◌, ◌-◌, length}
use Rattle.filter_origins.specs.Entries.{entries_of}
use Rattle.filter_origins.specs.Noted.{Follows}
use Rattle.filter_origins.proofs.origins.Origins.of.Given as goal

abbrev pub invariant-loop-place : goal.invariant-loop-place
invariant-loop-place l = record {
  most : l.place ≤ length l.journal;
  follows : Follows l.origins l.lists (entries_of l.places l.journal) l.place;
}

abbrev pub decreases-loop-place : goal.decreases-loop-place
decreases-loop-place l = length l.journal - l.place
