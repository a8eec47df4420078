use Rattle.line_texts.proofs.Classes.{class-read}
use Rattle.line_texts.proofs.Masked.{masked_hex-read, masked_octet-read}
use Rattle.line_texts.proofs.laws.pairs_are_read.Goals as goal

pub returns-clause-class : goal.returns-clause-class
returns-clause-class c = class-read

pub returns-clause-masked_hex : goal.returns-clause-masked_hex
returns-clause-masked_hex c = masked_hex-read

pub returns-clause-masked_octet : goal.returns-clause-masked_octet
returns-clause-masked_octet c = masked_octet-read
