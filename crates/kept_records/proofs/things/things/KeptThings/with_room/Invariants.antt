use Rattle.std.proofs.Common.{◌≡◌, None, replicate}
use Rattle.kept_records.proofs.things.things.KeptThings.with_room.Given as goal

abbrev pub invariant-loop : goal.invariant-loop
invariant-loop g l = record {
  empty : l.places.items ≡ replicate l.counter None;
}
