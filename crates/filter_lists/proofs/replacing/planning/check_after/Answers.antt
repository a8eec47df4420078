use Rattle.filter_lists.proofs.OfReplacing.Looking.{found_place}
use Rattle.filter_lists.proofs.replacing.planning.check_after.Goals as goal

pub check_masks-requires-clause-place : goal.check_masks-requires-clause-place
check_masks-requires-clause-place c = found_place c.args.kept.now c.args.line.now c.args.old.now c.requires.kept c.requires.found
