use Rattle.std.proofs.Common.{◌≡◌, ◌+◌, ◌++◌, map, take}
use Rattle.std.specs.Prelude.{vec_len, vec_capacity}
use Rattle.action_plan.specs.Entries.{actions_of}
use Rattle.batch_run.specs.Made.{name_of}
use Rattle.round_terms.proofs.new_names.push_names.Given as goal

abbrev pub invariant-loop-entry : goal.invariant-loop-entry
invariant-loop-entry l = record {
  pushed : l.made.items ≡ l.initial.made.items ++ map name_of (actions_of (take l.entry-index l.entries));
  room : vec_len l.made ≡ vec_len l.initial.made + l.entry-index;
  same : vec_capacity l.made ≡ vec_capacity l.initial.made;
}
