use Rattle.std.proofs.Common.{◌≡◌, take}
use Rattle.kept_records.proofs.known_filter.copy_actions.Given as goal

abbrev pub invariant-loop-action : goal.invariant-loop-action
invariant-loop-action l = l.into ≡ take l.action-index l.from
