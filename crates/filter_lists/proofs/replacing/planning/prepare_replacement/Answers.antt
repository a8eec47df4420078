use Rattle.filter_lists.proofs.OfReplacing.Ready.{replacement_planned}
use Rattle.filter_lists.proofs.replacing.planning.prepare_replacement.Goals as goal

pub returns-clause-planned : goal.returns-clause-planned
returns-clause-planned c row at =
    replacement_planned c.args.kept.now c.make_ready.new.kept c.args.line.now c.args.old c.look.new.plan c.make_ready.ensures.roomier c.in_ok-make_ready.field-0 row c.in_ok-look.ensures
    c.in_ok-make_ready.ensures.old c.in_ok-make_ready.ensures.fits c.in_ok-make_ready.ensures.change c.requires.masks at
