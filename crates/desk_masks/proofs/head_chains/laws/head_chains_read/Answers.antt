use Rattle.desk_masks.proofs.OfHeadChains.HeadChains.{head_reads, names_in, in_names}
use Rattle.desk_masks.proofs.head_chains.laws.head_chains_read.Goals as goal

pub returns-clause-reads : goal.returns-clause-reads
returns-clause-reads c = head_reads

pub returns-clause-names : goal.returns-clause-names
returns-clause-names c = names_in

pub returns-clause-named : goal.returns-clause-named
returns-clause-named c = in_names
