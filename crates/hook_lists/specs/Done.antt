-- What an edit that was looked at leaves when it is done.
use Rattle.std.specs.Prelude.{◌≡◌, length, Result, Ok, Err}
use Rattle.filter_state.specs.declared.refusal.Done.{Done}
use Rattle.filter_state.specs.declared.refusal.Refusal.{Refusal}
use Rattle.filter_state.specs.declared.refusal.Refusal.TheVariants as refusals
use Rattle.filter_state.specs.States.{State}
use Rattle.filter_state.specs.Order.{SameState}
use Rattle.filter_state.specs.Steps.{Stepped}
use Rattle.filter_tables.specs.Rows.{all_rows, BothWhole}
use Rattle.hook_lists.specs.declared.kept.Kept.{Kept}
use Rattle.hook_lists.specs.States.{both_of, state_of}
use Rattle.hook_lists.specs.Steps.{IsRoomier}
use Rattle.tc_base.specs.Memory.{no_memory}

-- the state is the one that the step leads to, the answer is the step's, the tables are whole, and the
-- filters are counted
pub record IsDone (kept : Kept) (done : Done) (next : State) (said : Done) : Type 0 where
  pub state : SameState (state_of kept) next
  pub answer : done ≡ said
  pub whole : BothWhole (both_of kept)
  pub filters : kept.filters ≡ length (all_rows (both_of kept))

-- An edit is done at once where the step accepts it. It is refused for the step's reason, or, where the step
-- accepts it, for want of memory; and then there may be more room, and all else is as before.
abbrev pub IsDoneAtOnce : Kept → Kept → Result Done Refusal → Stepped → Type 0
IsDoneAtOnce old new (Ok done) (Ok (next, said)) = IsDone new done next said
IsDoneAtOnce old new (Err refusal) (Err said) = (refusal ≡ said) × IsRoomier old new
IsDoneAtOnce old new (Err refusal) (Ok next) = (refusal ≡ refusals.NoMemory no_memory) × IsRoomier old new
IsDoneAtOnce old new (Ok done) (Err said) = ⊥
