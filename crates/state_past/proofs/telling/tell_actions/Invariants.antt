use Rattle.std.proofs.Common.{◌≡◌, take}
use Rattle.walk_steps.specs.Told.{action_serials}
use Rattle.state_past.proofs.telling.tell_actions.Given as goal

abbrev pub invariant-loop-serial : goal.invariant-loop-serial
invariant-loop-serial l = action_serials l.into ≡ take l.serial-index l.serials
