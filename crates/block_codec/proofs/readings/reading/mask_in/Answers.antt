use Rattle.block_codec.proofs.OfReadings.Values.{mask_some, mask_none}
use Rattle.block_codec.proofs.readings.reading.mask_in.Goals as goal

pub returns-in-Some : goal.returns-in-Some
returns-in-Some c = mask_some c.args.words.now (c.in-Some.mask, c.in-Some.field-0-1) c.told-words c.fits-words (c.in-Some.ensures)

pub returns-in-None : goal.returns-in-None
returns-in-None c = mask_none c.args.words.now c.told-words c.fits-words (c.in-None.ensures)
