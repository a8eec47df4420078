use Rattle.std.proofs.Common.{◌≡◌, ◌≤◌, length}
use Rattle.flow_mask.specs.Places.{HasPlaces}
use Rattle.flow_mask.proofs.masked_key.list_places.Given as goal

-- the places of the words so far are listed
abbrev pub invariant-loop-i : goal.invariant-loop-i
invariant-loop-i l = record {
  length : length l.places ≡ 14;
  few : l.count ≤ l.i;
  places : HasPlaces l.mask l.i l.places l.count;
}
