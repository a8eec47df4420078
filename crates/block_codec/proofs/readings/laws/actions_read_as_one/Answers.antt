use Rattle.block_codec.proofs.OfReadings.Acting.{action_only}
use Rattle.block_codec.proofs.readings.laws.actions_read_as_one.Goals as goal

pub returns : goal.returns
returns c = action_only
