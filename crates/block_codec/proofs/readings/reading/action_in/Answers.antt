use Rattle.block_codec.proofs.OfReadings.Values.{action_some, action_none}
use Rattle.block_codec.proofs.readings.reading.action_in.Goals as goal

pub returns-in-Some : goal.returns-in-Some
returns-in-Some c = action_some c.args.words.now (c.in-Some.action, c.in-Some.field-0-1) c.told-words c.fits-words c.in-Some.ensures

pub returns-in-None : goal.returns-in-None
returns-in-None c = action_none c.args.words.now c.told-words c.fits-words c.in-None.ensures
