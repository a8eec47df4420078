use Rattle.filter_lists.proofs.OfReplacing.Looking.{found_place}
use Rattle.filter_lists.proofs.replacing.planning.check_before.Goals as goal

pub check_protocol-requires-clause-place : goal.check_protocol-requires-clause-place
check_protocol-requires-clause-place c = found_place c.args.kept.now c.args.line.now c.args.old.now c.requires.kept c.requires.found

pub check_match-requires-clause-place : goal.check_match-requires-clause-place
check_match-requires-clause-place c = found_place c.args.kept.now c.args.line.now c.args.old.now c.requires.kept c.requires.found
