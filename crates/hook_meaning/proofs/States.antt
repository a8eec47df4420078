-- The law's states are those of the plain journal, and they are sound.
use Rattle.std.proofs.Common.{◌≡◌, ℕ, ◌≤◌, List, [], ◌∷◌, length, take, refl}
use Rattle.store_history.specs.declared.history.Commit.{Commit}
use Rattle.store_history.specs.History.{edits_of}
use Rattle.filter_state.specs.declared.edit.Edit.{Edit}
use Rattle.filter_state.specs.States.{State, no_state}
use Rattle.filter_state.specs.Steps.{step}
use Rattle.filter_state.specs.Journals.{state_after, state_from, state_at}
use Rattle.filter_state.specs.Sound.{Sound}
use Rattle.state_laws.proofs.Steps.{journal_sound}
use Rattle.hook_law.specs.Meaning as law
use Rattle.hook_law.specs.Keeping.{Keeps}
use Rattle.hook_law.proofs.Standing.{present_end}
use Rattle.hook_meaning.specs.Stated.{hook_meaning}
use Rattle.hook_meaning.specs.Blocks.{hook_codec}
use Rattle.hook_meaning.specs.Told.{state_after_edits}

run_is : (s : State) (edits : List Edit) → law.run hook_meaning s edits ≡ state_from s edits
run_is s [] = refl
run_is s (edit ∷ edits) = run_is (state_after s (step s edit)) edits

pub state_is : (edits : List Edit) (k : ℕ) → law.state_at hook_meaning edits k ≡ state_at k edits
state_is edits k = run_is no_state (take k edits)

pub sound_after : (h : List (Commit Edit)) (b k : ℕ) → Keeps hook_meaning hook_codec h b → b ≤ length h → Sound (state_after_edits h k)
sound_after h b k kept low = journal_sound (edits_of h) k (present_end hook_meaning hook_codec h b low kept).lawful
