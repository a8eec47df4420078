-- What an edit makes of the lists, held to the step of a state that they spell.
use Rattle.std.specs.Prelude.{◌≡◌, ◌+◌, ◌<◌, Result, Ok, Err}
use Rattle.filter_state.specs.declared.refusal.Done.{Done}
use Rattle.filter_state.specs.declared.refusal.Refusal.{Refusal}
use Rattle.filter_state.specs.declared.refusal.Refusal.TheVariants as refusals
use Rattle.filter_state.specs.Steps.{Stepped}
use Rattle.hook_lists.specs.declared.kept.Kept.{Kept}
use Rattle.hook_lists.specs.States.{state_of}
use Rattle.filter_lists.specs.Spells.{Spells}
use Rattle.tc_base.specs.Memory.{no_memory}

-- the state is as it was; only the room may be more
abbrev pub Stays : Kept → Kept → Type 0
Stays old new = state_of new ≡ state_of old

-- The lists before and after an edit, and what it was answered, against the step of the state. Both accept
-- it, with one answer, and the new lists spell the new state; or both refuse it for one reason, and the state
-- stays. Want of memory may be answered where the step accepts the edit, and then the state stays too.
abbrev pub IsStepped : Kept → Kept → Result Done Refusal → Stepped → Type 0
IsStepped old new (Ok done) (Ok (next, said)) = (done ≡ said) × Spells new next
IsStepped old new (Err refusal) (Err said) = (refusal ≡ said) × Stays old new
IsStepped old new (Err refusal) (Ok next) = (refusal ≡ refusals.NoMemory no_memory) × Stays old new
IsStepped old new (Ok done) (Err said) = ⊥

-- An edit is prepared where the step accepts it, and refused for the step's reason, or for want of memory
-- where the step accepts it.
abbrev pub IsPrepared : {P : Type 0} → Result P Refusal → Stepped → Type 0
IsPrepared (Ok prepared) (Ok next) = Unit {0}
IsPrepared (Err refusal) (Err said) = refusal ≡ said
IsPrepared (Err refusal) (Ok next) = refusal ≡ refusals.NoMemory no_memory
IsPrepared (Ok prepared) (Err said) = ⊥

-- what was prepared is done: the answer is the step's, and the lists spell the state that it leads to
abbrev pub IsFinished : Kept → Done → Stepped → Type 0
IsFinished new done (Ok (next, said)) = (done ≡ said) × Spells new next
IsFinished new done (Err said) = ⊥

-- the next serials of tables and masks fit their numbers
pub record MayStep (kept : Kept) : Type 0 where
  pub tables : kept.tables_made + 1 < 4294967296
  pub masks : kept.masks_made + 1 < 4294967296
