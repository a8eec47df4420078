use Rattle.std.proofs.Common.{take}
use Rattle.filter_state.specs.States.{State}
use Rattle.filter_lists.specs.Spells.{Spells}
use Rattle.edit_effects.specs.OfEffects.Parts.{params_at}
use Rattle.slot_pasts.specs.Pasts.{stood}
use Rattle.slot_pasts.specs.Serials.{past_at}
use Rattle.state_past.specs.Brought.{Brought, AllUpTo}
use Rattle.state_past.specs.Told.{StayLive}
use Rattle.state_past.proofs.actions.note_lost.Given as goal

abbrev pub invariant-loop-serial : goal.invariant-loop-serial
invariant-loop-serial l = record {
  up_to : AllUpTo l.from (past_at l.actions);
  brought : (s : State) → Spells l.lists s → StayLive s l.from (past_at l.fn.actions) (l.serials) → Brought l.from stood (params_at s) (take l.serial-index l.serials) (past_at l.fn.actions) (past_at l.actions);
}
