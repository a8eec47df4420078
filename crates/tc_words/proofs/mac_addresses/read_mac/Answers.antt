use Rattle.std.proofs.Common.{sym}
use Rattle.tc_words.proofs.MacParts.{no_slash, a_slash}
use Rattle.tc_words.proofs.mac_addresses.read_mac.Goals as goal

pub returns-in-Some-clause-value : goal.returns-in-Some-clause-value
returns-in-Some-clause-value c =
    let mac = a_slash c.args.word.now c.in-Some.address.now c.in-Some.mask.now (sym c.in-Some.ensures) in
    cc (mac, c.masked.ensures.value, c.read_address.ensures.value, c.read_last_mask.ensures.value)

pub returns-in-None-clause-value : goal.returns-in-None-clause-value
returns-in-None-clause-value c =
    let mac = no_slash c.args.word.now (sym c.in-None.ensures) in
    cc (mac, c.masked-in-None.ensures.value, c.read_address-in-None.ensures.value)
