use Rattle.std.proofs.Common.{sym}
use Rattle.tc_words.proofs.Ipv6Parts.{no_slash, a_slash}
use Rattle.tc_words.proofs.ipv6_addresses.read_ipv6.Goals as goal

pub returns-in-Some-clause-value : goal.returns-in-Some-clause-value
returns-in-Some-clause-value c =
    let word = a_slash c.args.word.now c.in-Some.address.now c.in-Some.length.now (sym c.in-Some.ensures) in
    cc (word, c.prefix.ensures.value, c.read_address.ensures, c.read_last_length.ensures.value)

pub returns-in-None-clause-value : goal.returns-in-None-clause-value
returns-in-None-clause-value c =
    let word = no_slash c.args.word.now (sym c.in-None.ensures) in
    cc (word, c.prefix-in-None.ensures.value, c.read_address-in-None.ensures)
