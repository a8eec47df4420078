use Rattle.std.proofs.Common.{◌≡◌, ◌++◌, map, take}
use Rattle.action_plan.specs.Entries.{actions_of}
use Rattle.batch_run.specs.Made.{name_of}
use Rattle.batch_run.proofs.made_action.log_made.Given as goal

abbrev pub invariant-loop-entry : goal.invariant-loop-entry
invariant-loop-entry l = l.made.items ≡ l.initial.made.items ++ map name_of (actions_of (take l.entry-index l.later))
