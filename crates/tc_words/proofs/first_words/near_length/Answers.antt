use Rattle.tc_words.proofs.NearEnds.{near_end}
use Rattle.tc_words.proofs.first_words.near_length.Goals as goal

pub returns : goal.returns
returns c = near_end c.args.text.now c.first_set.result c.requires c.first_set.ensures
