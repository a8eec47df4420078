use Rattle.block_codec.proofs.OfReadings.Values.{table_some, table_none}
use Rattle.block_codec.proofs.readings.reading.table_in.Goals as goal

pub returns-in-Some : goal.returns-in-Some
returns-in-Some c = table_some c.args.words.now (c.in-Some.table, c.in-Some.field-0-1) c.told-words c.in-Some.ensures

pub returns-in-None : goal.returns-in-None
returns-in-None c = table_none c.args.words.now c.told-words c.in-None.ensures
