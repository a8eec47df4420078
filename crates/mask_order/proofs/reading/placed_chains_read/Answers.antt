use Rattle.mask_order.proofs.Placing.{placed_chain_reads}
use Rattle.mask_order.proofs.reading.placed_chains_read.Goals as goal

pub returns : goal.returns
returns c = placed_chain_reads
