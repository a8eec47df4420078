use Rattle.line_texts.proofs.MacTexts.{mac-read}
use Rattle.line_texts.proofs.Ipv4Texts.{ipv4-read}
use Rattle.line_texts.proofs.Ipv6Texts.{ipv6-read}
use Rattle.line_texts.proofs.laws.addresses_are_read.Goals as goal

pub returns-clause-mac : goal.returns-clause-mac
returns-clause-mac c = mac-read

pub returns-clause-ipv4 : goal.returns-clause-ipv4
returns-clause-ipv4 c = ipv4-read

pub returns-clause-ipv6 : goal.returns-clause-ipv6
returns-clause-ipv6 c = ipv6-read
