-- What lists answer that stay as they are.
use Rattle.std.specs.Prelude.{◌≡◌, ℕ, true, Some}
use Rattle.std.specs.List.{list_any}
use Rattle.filter_state.specs.States.{State}
use Rattle.filter_state.specs.Actions.{has_serial}
use Rattle.filter_state.specs.Order.{of_mask}
use Rattle.hook_lists.specs.declared.kept.Kept.{Kept}
use Rattle.hook_lists.specs.States.{state_of, AreKept}
use Rattle.filter_lists.specs.Spells.{Spells}
use Rattle.walk_rules.specs.Questions.{Question, Answer}
use Rattle.walk_rules.specs.Answers.{answer_of}

-- the lists are whole and sound, and the answer is that of each state that they spell, at their point
pub record StillTold (lists : Kept) (at : ℕ) (question : Question) (answer : Answer)
    (point : ℕ) : Type 0 where
  pub kept : AreKept lists
  pub answers : (s : State) → Spells lists s → answer_of s question ≡ Some answer
  pub here : point ≡ at

-- a mask, and an action, stand in the lists
abbrev pub StandsMask : Kept → ℕ → Type 0
StandsMask lists serial = list_any (of_mask serial) (state_of lists).rows ≡ true

abbrev pub StandsAction : Kept → ℕ → Type 0
StandsAction lists serial = list_any (has_serial serial) (state_of lists).actions ≡ true
