use Rattle.report_laws.proofs.OfNextLines.Next.{all_told}
use Rattle.report_laws.proofs.OfNextLines.NextOutcomes.{takes_walk, takes_walk_alone, takes_end_alone}
use Rattle.report_laws.proofs.next_lines.events.next_packets.Goals as goal

pub returns-clause-takes : goal.returns-clause-takes
returns-clause-takes c = takes_walk

pub returns-clause-no_other : goal.returns-clause-no_other
returns-clause-no_other c = takes_walk_alone

pub returns-clause-end : goal.returns-clause-end
returns-clause-end c = takes_end_alone

pub returns-clause-told : goal.returns-clause-told
returns-clause-told c = λ round it begun none. all_told round.batches it.events begun none
