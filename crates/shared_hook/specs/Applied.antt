-- What applying an edit to a desk comes to (this project's own). `y` is the edit.
use Rattle.std.specs.Prelude.{◌≡◌, ◌⊎◌, ℕ, ◌+◌, ◌%◌, ◌-◌, ◌<◌, ◌≤◌, List, [], ◌∷◌, ◌++◌, slice_get}
use Rattle.std.specs.Prelude.{slice_index_or, Some, None, Ok, Err}
use Rattle.store_history.specs.declared.history.Commit.{Commit}
use Rattle.pin_store.specs.declared.note.Note.TheVariants.{Unknown, Seen}
use Rattle.pin_store.specs.Calls.{seen_by, sheet_of}
use Rattle.filter_state.specs.declared.edit.Edit.{Edit}
use Rattle.filter_state.specs.declared.refusal.Done.{Done}
use Rattle.filter_state.specs.declared.refusal.Refusal.{Refusal}
use Rattle.filter_state.specs.declared.refusal.Refusal.TheVariants as refusals
use Rattle.filter_state.specs.States.{State}
use Rattle.filter_state.specs.Steps.{Stepped, step}
use Rattle.filter_lists.specs.Edits.{Stays}
use Rattle.hook_store_law.specs.OfEdits.Premises.{now}
use Rattle.desk_needs.specs.declared.pool.Pool.{Pool}
use Rattle.desk_needs.specs.Needs.{needed_of}
use Rattle.shared_hook.specs.Short.{place_of}
use Rattle.shared_hook.specs.Views.{DeskView, count_of, journal}
use Rattle.tc_base.specs.Memory.{no_memory}

-- what the plain step answers at the end of a desk's journal
abbrev pub stepped : DeskView → Edit → Stepped
stepped desk y = step (now (seen_by desk.place)) y

-- each pool has what the edit needs
abbrev pub HasNeeded : DeskView → Edit → Type 0
HasNeeded desk y = (pool : Pool) → needed_of (now (seen_by desk.place)) y pool ≤ count_of desk.free pool

-- so many epochs began: none, or those of a tidying
abbrev pub TidiesOnce : DeskView → DeskView → Type 0
TidiesOnce old new = ((sheet_of new.place).epoch ≡ (sheet_of old.place).epoch + 1)
    ⊎ ((sheet_of new.place).epoch ≡ (sheet_of old.place).epoch + 2)

-- THE EDIT STANDS, once, at the end of the journal; the lists answered as the plain step does. No pool has
-- lost more than the edit needs. The desk was tidied exactly where one was short.
pub record IsApplied (old new : DeskView) (y : Edit) (done : Done) : Type 0 where
  pub steps : stepped old y ≡ Ok (now (seen_by new.place), done)
  pub journal_is : journal new ≡ journal old ++ y ∷ []
  pub lowered : (pool : Pool) → count_of old.free pool
      ≤ count_of new.free pool + needed_of (now (seen_by old.place)) y pool
  pub still : HasNeeded old y → (sheet_of new.place).epoch ≡ (sheet_of old.place).epoch
  pub tidied : (HasNeeded old y → ⊥) → TidiesOnce old new

-- a plain step refuses for this reason, or accepts, and memory was refused
abbrev pub IsCause : Refusal → Stepped → Type 0
IsCause refusal (Err said) = refusal ≡ said
IsCause refusal (Ok next) = refusal ≡ refusals.NoMemory no_memory

-- THE EDIT IS REFUSED, and nothing changed but maybe the room of the lists
pub record IsRefused (old new : DeskView) (y : Edit) (refusal : Refusal) : Type 0 where
  pub cause : IsCause refusal (stepped old y)
  pub place : new.place ≡ old.place
  pub lists : Stays old.lists new.lists
  pub free : new.free ≡ old.free
  pub left : new.left ≡ old.left

-- commits without an edit, which name nothing
abbrev pub AreEmpty : List (Commit Edit) → Type 0
AreEmpty cs = (at : ℕ) (c : Commit Edit) → slice_get cs at ≡ Some c → (c.edit ≡ None) × (c.named.chain ≡ [])

-- THE EDIT IS HELD. The plain step accepts it. The desk was tidied, and has still fewer free of the pool than
-- the edit needs; each pool before it has enough. The pin of the reader was loaded twice in an epoch that
-- began in this call, and was the same odd number. Lists and journal are as they were, and no pool has fewer
-- free. Something had left that could not be given again.
pub record IsHeld (old new : DeskView) (y : Edit) (pool : Pool) (reader pin needed free : ℕ) : Type 0 where
  pub accepted : (t : State) × (done : Done) × (stepped old y ≡ Ok (t, done))
  pub needs : needed ≡ needed_of (now (seen_by old.place)) y pool
  pub counted : free ≡ count_of new.free pool
  pub few : free < needed
  pub first : (other : Pool) → place_of other < place_of pool
      → needed_of (now (seen_by old.place)) y other ≤ count_of new.free other
  pub named : 1 ≤ reader
  pub seen_twice : slice_index_or (sheet_of new.place).notes (reader - 1) Unknown ≡ Seen pin 2
  pub odd : pin % 2 ≡ 1
  pub epochs : TidiesOnce old new
  pub journal_is : journal new ≡ journal old
  pub lists : Stays old.lists new.lists
  pub commits : (cs : List (Commit Edit)) × (seen_by new.place ≡ seen_by old.place ++ cs) × AreEmpty cs
  pub kept : (other : Pool) → count_of old.free other ≤ count_of new.free other
  pub left : ((other : Pool) → count_of old.left other ≡ 0) → ⊥
