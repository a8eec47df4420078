use Rattle.desk_parts.proofs.OfWays.Looked.{few_of}
use Rattle.desk_parts.proofs.ways.seeking.mask_in.Goals as goal

pub returns-clause-few : goal.returns-clause-few
returns-clause-few c = few_of c.args.parts.now c.requires c.args.hook c.args.chain c.args.pref c.args.mask.now.words c.find_mask.result c.find_mask.ensures.some
