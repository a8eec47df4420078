use Rattle.std.proofs.Common.{◌∙◌, sym}
use Rattle.tc_words.proofs.MacParts.{slashed_mask, whole_mask}
use Rattle.tc_words.proofs.mac_addresses.read_last_mask.Goals as goal

pub returns-in-Some-clause-value : goal.returns-in-Some-clause-value
returns-in-Some-clause-value c = sym (slashed_mask c.args.text.now _ _ (sym c.in-Some.ensures))

pub returns-in-None-clause-value : goal.returns-in-None-clause-value
returns-in-None-clause-value c = c.read_mask.ensures.value ∙ sym (whole_mask c.args.text.now (sym c.in-None.ensures))
