use Rattle.std.proofs.Common.{◌∙◌, sym}
use Rattle.tc_words.proofs.Ipv6Parts.{gapless, with_gap}
use Rattle.tc_words.proofs.ipv6_addresses.read_address.Goals as goal

pub returns-in-Some : goal.returns-in-Some
returns-in-Some c =
    let address = with_gap c.args.text.now c.in-Some.front.now c.in-Some.back.now (sym c.in-Some.ensures) in
    cc (address, c.join_around_gap.ensures, c.read_groups_beside.ensures.value, c.read_groups_beside-in-Some.ensures.value)

pub returns-in-None : goal.returns-in-None
returns-in-None c = c.read_whole_address.ensures ∙ sym (gapless c.args.text.now (sym c.in-None.ensures))
