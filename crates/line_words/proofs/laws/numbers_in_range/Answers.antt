use Rattle.line_words.proofs.Ranges.{number_between_range, tpid_range, ether_type_range, protocol_range, ip_protocol_range, class_range}
use Rattle.line_words.proofs.laws.numbers_in_range.Goals as goal

pub returns-clause-between : goal.returns-clause-between
returns-clause-between c = number_between_range

pub returns-clause-tpid : goal.returns-clause-tpid
returns-clause-tpid c = tpid_range

pub returns-clause-ether_type : goal.returns-clause-ether_type
returns-clause-ether_type c = ether_type_range

pub returns-clause-protocol : goal.returns-clause-protocol
returns-clause-protocol c = protocol_range

pub returns-clause-ip_protocol : goal.returns-clause-ip_protocol
returns-clause-ip_protocol c = ip_protocol_range

pub returns-clause-class : goal.returns-clause-class
returns-clause-class c = class_range
