use Rattle.line_words.proofs.AddressRanges.{mac_range, ipv4_range, ipv6_range}
use Rattle.line_words.proofs.laws.addresses_in_range.Goals as goal

pub returns-clause-mac : goal.returns-clause-mac
returns-clause-mac c = mac_range

pub returns-clause-ipv4 : goal.returns-clause-ipv4
returns-clause-ipv4 c = ipv4_range

pub returns-clause-ipv6 : goal.returns-clause-ipv6
returns-clause-ipv6 c = ipv6_range
