-- Each edit that a line can say keeps a state sound, and so does each list of them.
use Rattle.std.proofs.Common.{ℕ, zero, suc, List, [], ◌∷◌, take}
use Rattle.filter_state.specs.declared.edit.Edit.{Edit}
use Rattle.filter_state.specs.declared.edit.Edit.TheVariants as edits
use Rattle.filter_state.specs.States.{State, no_state}
use Rattle.filter_state.specs.Lines.{IsLine}
use Rattle.filter_state.specs.Steps.{step}
use Rattle.filter_state.specs.Sound.{Sound}
use Rattle.filter_state.specs.Journals.{state_after, state_from, state_at, IsLawful, IsLawfulFrom}
use Rattle.state_laws.proofs.Hooks.{hook_add_sound, hook_del_sound}
use Rattle.state_laws.proofs.Shared.{action_add_sound, action_change_sound, action_del_sound}
use Rattle.state_laws.proofs.Taking.{filter_del_sound}
use Rattle.state_laws.proofs.Adding.{filter_add_sound}
use Rattle.state_laws.proofs.Replacing.{filter_replace_sound}
use Rattle.state_laws.proofs.Whole.{start_sound}

pub step_sound : (s : State) (edit : Edit) → Sound s → IsLine edit → Sound (state_after s (step s edit))
step_sound s edits.HookAdd sound is = hook_add_sound s sound
step_sound s edits.HookDel sound is = hook_del_sound s sound
step_sound s (edits.FilterAdd line) sound is = filter_add_sound s line sound is
step_sound s (edits.FilterReplace line) sound is = filter_replace_sound s line sound is.0
step_sound s (edits.FilterDel hook protocol chain pref handle) sound is = filter_del_sound s hook protocol chain pref handle sound
step_sound s (edits.ActionAdd action) sound is = action_add_sound s action sound is
step_sound s (edits.ActionChange action) sound is = action_change_sound s action sound is.0 is.1
step_sound s (edits.ActionDel kind index) sound is = action_del_sound s kind index sound

-- the first so many of them
from_sound : (journal : List Edit) (point : ℕ) (s : State) → Sound s → IsLawfulFrom s journal → Sound (state_from s (take point journal))
from_sound [] zero s sound lawful = sound
from_sound [] (suc point) s sound lawful = sound
from_sound (edit ∷ journal) zero s sound lawful = sound
from_sound (edit ∷ journal) (suc point) s sound lawful = from_sound journal point (state_after s (step s edit)) (step_sound s edit sound lawful.0) lawful.2

pub journal_sound : (journal : List Edit) (point : ℕ) → IsLawful journal → Sound (state_at point journal)
journal_sound journal point lawful = from_sound journal point no_state start_sound lawful
