use Rattle.tc_words.proofs.FirstPlaces.{first_place}
use Rattle.tc_words.proofs.cuts.place_of.Goals as goal

pub returns : goal.returns
returns c = first_place _ c.args.bytes.now c.memchr.result c.memchr.ensures
