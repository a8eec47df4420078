use Rattle.line_words.proofs.Ranges.{masked_hex_range, masked_octet_range}
use Rattle.line_words.proofs.laws.masked_in_range.Goals as goal

pub returns-clause-hex : goal.returns-clause-hex
returns-clause-hex c = masked_hex_range

pub returns-clause-octet : goal.returns-clause-octet
returns-clause-octet c = masked_octet_range
