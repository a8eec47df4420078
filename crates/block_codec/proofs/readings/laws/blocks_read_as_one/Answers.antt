use Rattle.block_codec.proofs.OfReadings.Only.{filter_only, mask_only, table_only}
use Rattle.block_codec.proofs.readings.laws.blocks_read_as_one.Goals as goal

pub returns-clause-filter : goal.returns-clause-filter
returns-clause-filter c = filter_only

pub returns-clause-mask : goal.returns-clause-mask
returns-clause-mask c = mask_only

pub returns-clause-table : goal.returns-clause-table
returns-clause-table c = table_only
