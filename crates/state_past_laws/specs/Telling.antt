-- A past that tells what the states of a journal had in one place (this project's own).
use Rattle.std.specs.Prelude.{◌≡◌, ℕ, ◌≤◌, List, length, Option}
use Rattle.filter_state.specs.declared.edit.Edit.{Edit}
use Rattle.filter_state.specs.States.{State}
use Rattle.filter_state.specs.Journals.{state_at}
use Rattle.slot_pasts.specs.declared.past.Change.{Change}
use Rattle.slot_pasts.specs.Pasts.{value_at, UpTo}

-- THE PAST TELLS it at each point of the journal, as the reading of the last change up to the point says, and
-- has no change behind the journal's end
pub record Tells {V W : Type 0} (has : State → W) (read : Option V → W) (past : List (Change V))
    (journal : List Edit) : Type 0 where
  pub told : (point : ℕ) → point ≤ length journal → has (state_at point journal) ≡ read (value_at point past)
  pub up_to : UpTo (length journal) past
