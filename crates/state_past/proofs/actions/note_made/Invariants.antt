use Rattle.std.proofs.Common.{◌+◌, ◌-◌, ◌≤◌}
use Rattle.filter_state.specs.States.{State}
use Rattle.filter_lists.specs.Spells.{Spells}
use Rattle.edit_effects.specs.OfEffects.Parts.{params_at}
use Rattle.slot_pasts.specs.Pasts.{stood}
use Rattle.slot_pasts.specs.Serials.{past_at}
use Rattle.state_past.specs.Serials.{serials_from}
use Rattle.state_past.specs.Brought.{Brought, AllUpTo}
use Rattle.state_past.proofs.actions.note_made.Given as goal

abbrev pub invariant-loop-serial : goal.invariant-loop-serial
invariant-loop-serial l = record {
  least : l.made ≤ l.serial;
  most : l.serial - l.made ≤ l.last - l.made;
  up_to : AllUpTo l.from (past_at l.actions);
  brought : (s : State) → Spells l.lists s → Brought l.from stood (params_at s) (serials_from (l.made + 1) (l.serial - l.made)) (past_at l.fn.actions) (past_at l.actions);
}

abbrev pub decreases-loop-serial : goal.decreases-loop-serial
decreases-loop-serial l = l.last - l.serial
