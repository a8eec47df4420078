use Rattle.state_laws.proofs.OfOrder.Soundness.{sound_same}
use Rattle.state_laws.proofs.OfOrder.Steps.{step_same}
use Rattle.state_laws.proofs.order.order_is_free.Goals as goal

pub returns-clause-sound : goal.returns-clause-sound
returns-clause-sound c = sound_same

pub returns-clause-step : goal.returns-clause-step
returns-clause-step c = step_same
