use Rattle.state_laws.proofs.Steps.{step_sound, journal_sound}
use Rattle.state_laws.proofs.Whole.{start_sound}
use Rattle.state_laws.proofs.steps_keep_states_sound.Goals as goal

pub returns-clause-start : goal.returns-clause-start
returns-clause-start c = start_sound

pub returns-clause-step : goal.returns-clause-step
returns-clause-step c = step_sound

pub returns-clause-journal : goal.returns-clause-journal
returns-clause-journal c = journal_sound
