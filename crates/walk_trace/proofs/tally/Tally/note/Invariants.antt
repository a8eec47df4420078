use Rattle.std.proofs.Common.{◌≡◌, ◌≤◌, ◌+◌, ℕ, take}
use Rattle.walk_trace.specs.Tallies.{count_at, times_in}
use Rattle.walk_trace.proofs.tally.Tally.note.Given as goal

abbrev pub invariant-loop-edit : goal.invariant-loop-edit
invariant-loop-edit l = record {
  counts : (edit : ℕ) → count_at l.self edit ≡ count_at l.fn.self edit + times_in (take l.edit-index l.decided) edit;
  few : (edit : ℕ) → count_at l.self edit ≤ count_at l.fn.self edit + l.edit-index;
}
