use Rattle.hook_meaning.proofs.States.{state_is, sound_after}
use Rattle.hook_meaning.proofs.laws.states_stay_sound.Goals as goal

pub returns-clause-plain : goal.returns-clause-plain
returns-clause-plain c = state_is

pub returns-clause-sound : goal.returns-clause-sound
returns-clause-sound c = sound_after
