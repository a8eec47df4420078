use Rattle.filter_lists.proofs.OfReplacing.AtOnce.{AreTaken, done_there}
use Rattle.filter_lists.proofs.replacing.at_once.exchange.Goals as goal

pub returns-clause-done : goal.returns-clause-done
returns-clause-done c = λ row at.
    let start = c.args.kept.now in
    let mid = c.reserve_actions.new.kept in
    let kept = c.change_for.new.kept in
    let for_filter = c.in_ok-for_filter.for_filter in
    let serials = c.in_ok-serials.serials in
    let taken : AreTaken start mid kept c.args.line.now c.args.old.now c.args.plan.now c.in_ok-change.change for_filter serials = record {
      looked = c.requires.looked;
      masks = c.requires.masks;
      first = c.reserve_actions.ensures.roomier;
      second = c.change_for.ensures.roomier;
      actions = c.change_for.ensures.actions;
      fits = c.in_ok-reserve_actions.ensures.fits;
      its_change = c.in_ok-change.ensures.change;
      given = c.in_ok-for_filter.ensures;
      told = c.in_ok-serials.ensures;
    } in
    done_there start mid kept c.args.line.now c.args.old.now c.args.plan.now c.in_ok-change.change for_filter serials taken c.settle.new.kept c.settle.result row c.settle.ensures at
