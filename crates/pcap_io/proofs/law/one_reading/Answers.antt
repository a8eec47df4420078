use Rattle.pcap_io.proofs.Unique.{one_capture, no_fault, one_fault}
use Rattle.pcap_io.proofs.law.one_reading.Goals as goal

pub returns-clause-capture : goal.returns-clause-capture
returns-clause-capture c = one_capture

pub returns-clause-no_fault : goal.returns-clause-no_fault
returns-clause-no_fault c = no_fault

pub returns-clause-one_fault : goal.returns-clause-one_fault
returns-clause-one_fault c = one_fault
