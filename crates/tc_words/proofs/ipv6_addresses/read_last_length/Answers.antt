use Rattle.std.proofs.Common.{◌∙◌, sym}
use Rattle.tc_words.proofs.Ipv6Parts.{slashed_length, whole_length}
use Rattle.tc_words.proofs.ipv6_addresses.read_last_length.Goals as goal

pub returns-in-Some-clause-value : goal.returns-in-Some-clause-value
returns-in-Some-clause-value c = sym (slashed_length c.args.text.now _ _ (sym c.in-Some.ensures))

pub returns-in-None-clause-value : goal.returns-in-None-clause-value
returns-in-None-clause-value c = c.read_decimal.ensures.value ∙ sym (whole_length c.args.text.now (sym c.in-None.ensures))
