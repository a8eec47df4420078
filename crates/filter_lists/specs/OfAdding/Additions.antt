-- What an addition comes to, and when it can be done.
use Rattle.filter_state.specs.declared.limits.TheConstants.{FILTERS_MAX}
use Rattle.std.specs.Prelude.{◌≡◌, ◌≤◌, ◌<◌, ◌+◌, ℕ, List, Result, Ok, Err}
use Rattle.filter_state.specs.declared.refusal.Done.{Done}
use Rattle.filter_state.specs.declared.refusal.Done.TheVariants as dones
use Rattle.filter_state.specs.declared.refusal.Refusal.{Refusal}
use Rattle.filter_state.specs.declared.refusal.Refusal.TheVariants as refusals
use Rattle.filter_state.specs.States.{State}
use Rattle.filter_state.specs.Steps.{Stepped, made_of, with_actions, with_row}
use Rattle.action_plan.specs.declared.planned.PlannedAction.{PlannedAction}
use Rattle.action_plan.specs.Plans.{carried}
use Rattle.hook_lists.specs.declared.kept.Kept.{Kept}
use Rattle.hook_lists.specs.States.{state_of}
use Rattle.hook_lists.specs.Steps.{PlanFits}
use Rattle.filter_lists.specs.declared.adding.addition.Addition.{Addition}
use Rattle.filter_lists.specs.declared.adding.arrival.Arrival.{Arrival}
use Rattle.filter_lists.specs.declared.adding.arrival.Seat.{Seat}
use Rattle.filter_lists.specs.OfAdding.Arrivals.{row_of_arrival, IsSeat}
use Rattle.tc_base.specs.Memory.{no_memory}

-- the addition of a filter whose actions stand in a plan
abbrev pub addition_of : Arrival → Seat → List PlannedAction → List ℕ → Addition
addition_of arrival seat plan serials =
    record { arrival = arrival; seat = seat; actions = plan; serials = serials }

-- the state that an addition leads to, and its answer
abbrev pub state_after : State → Addition → State
state_after s addition =
    with_actions (with_row s (row_of_arrival addition.arrival)) (carried (made_of s) addition.actions)

abbrev pub answer_of : Addition → Done
answer_of addition = dones.Filter addition.arrival.pref addition.arrival.filter.handle addition.serials

pub record IsReady (kept : Kept) (addition : Addition) : Type 0 where
  pub seat : IsSeat kept addition.arrival addition.seat
  pub actions : PlanFits kept addition.actions
  pub handle : 1 ≤ addition.arrival.filter.handle
  pub tables : kept.tables_made + 1 < 4294967296
  pub masks : kept.masks_made + 1 < 4294967296
  pub filters : kept.filters < FILTERS_MAX

-- An addition is planned where the step accepts the edit, and leads where the step does; it is refused for
-- the step's reason, or, where the step accepts the edit, for want of memory.
abbrev pub IsPlanned : Kept → Result Addition Refusal → Stepped → Type 0
IsPlanned kept (Ok addition) (Ok (next, said)) = IsReady kept addition
    × (state_after (state_of kept) addition ≡ next) × (answer_of addition ≡ said)
IsPlanned kept (Err refusal) (Err said) = refusal ≡ said
IsPlanned kept (Err refusal) (Ok next) = refusal ≡ refusals.NoMemory no_memory
IsPlanned kept planned stepped = ⊥
