use Rattle.line_texts.proofs.Lengths.{length-of_prefix, length-of_ipv6}
use Rattle.line_texts.proofs.laws.lengths_are_found.Goals as goal

pub returns-clause-ipv4 : goal.returns-clause-ipv4
returns-clause-ipv4 c = length-of_prefix

pub returns-clause-ipv6 : goal.returns-clause-ipv6
returns-clause-ipv6 c = length-of_ipv6
