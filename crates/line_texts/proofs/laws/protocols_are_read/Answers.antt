use Rattle.line_texts.proofs.EtherTypes.{ether_type-read, protocol-all, protocol-read, tpid-read}
use Rattle.line_texts.proofs.IpProtocols.{ip_protocol-read}
use Rattle.line_texts.proofs.laws.protocols_are_read.Goals as goal

pub returns-clause-ether_type : goal.returns-clause-ether_type
returns-clause-ether_type c = ether_type-read

pub returns-clause-all : goal.returns-clause-all
returns-clause-all c = protocol-all

pub returns-clause-one : goal.returns-clause-one
returns-clause-one c = protocol-read

pub returns-clause-tpid : goal.returns-clause-tpid
returns-clause-tpid c = tpid-read

pub returns-clause-ip_protocol : goal.returns-clause-ip_protocol
returns-clause-ip_protocol c = ip_protocol-read
