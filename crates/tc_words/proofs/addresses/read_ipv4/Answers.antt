use Rattle.std.proofs.Common.{sym}
use Rattle.tc_words.proofs.Dotted.{no_slash, a_slash}
use Rattle.tc_words.proofs.addresses.read_ipv4.Goals as goal

pub returns-in-Some : goal.returns-in-Some
returns-in-Some c =
    let prefix = a_slash c.args.word.now c.in-Some.address.now c.in-Some.length.now (sym c.in-Some.ensures) in
    cc (prefix, c.masked.ensures, c.read_address.ensures, c.read_decimal.ensures.value)

pub returns-in-None : goal.returns-in-None
returns-in-None c =
    let prefix = no_slash c.args.word.now (sym c.in-None.ensures) in
    cc (prefix, c.masked-in-None.ensures, c.read_address-in-None.ensures)
