use Rattle.std.proofs.Common.{sym}
use Rattle.line_words.proofs.WordParts.{octet_alone, octet_and_mask}
use Rattle.line_words.proofs.masked_values.read_masked_octet.Goals as goal

pub returns-in-Some : goal.returns-in-Some
returns-in-Some c =
    let octet = octet_and_mask c.args.word.now c.in-Some.value.now c.in-Some.mask.now (sym c.in-Some.ensures) in
    cc (octet, c.under_mask.ensures, c.read_octet.ensures, c.read_octet-in-Some.ensures)

pub returns-in-None : goal.returns-in-None
returns-in-None c =
    let octet = octet_alone c.args.word.now (sym c.in-None.ensures) in
    cc (octet, c.under_mask-in-None.ensures, c.read_octet-in-None.ensures)
