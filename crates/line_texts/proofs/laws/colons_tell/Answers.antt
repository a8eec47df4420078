use Rattle.line_texts.proofs.Ipv4Texts.{ipv4-no_colon}
use Rattle.line_texts.proofs.Ipv6Texts.{ipv6-colon}
use Rattle.line_texts.proofs.laws.colons_tell.Goals as goal

pub returns-clause-ipv4 : goal.returns-clause-ipv4
returns-clause-ipv4 c = ipv4-no_colon

pub returns-clause-ipv6 : goal.returns-clause-ipv6
returns-clause-ipv6 c = ipv6-colon
