use Rattle.std.proofs.Common.{◌≡◌, ◌∙◌, ◌-◌, ◌<◌, length, sym, ap, arith}
use Rattle.std.specs.Prelude.{Some, slice_get}
use Rattle.std.proofs.lemmas.Option.{slice_get-get_or}
use Rattle.filter_state.proofs.Places.{each_at}
use Rattle.batch_trace.specs.Passed.{edits_of}
use Rattle.report_check.specs.Walks.{StandsIn}
use Rattle.report_trace.proofs.Walkers.{stands_set, at_set, long_set}
use Rattle.report_trace.proofs.telling.follow_worker.Goals as goal

pub follow-requires-clause-stands : goal.follow-requires-clause-stands
follow-requires-clause-stands c =
    let walkers = c.args.walkers.now.items in
    let walker = c.index_mut-walker.result.now in
    let low = c.requires.worker.0 in
    let most = c.requires.worker.1 in
    let less : c.args.worker - 1 < length walkers = omega (arith, low, most) in
    let there : slice_get walkers (c.args.worker - 1) ≡ Some walker = slice_get-get_or walkers (c.args.worker - 1) walker less ∙ ap (λ w. Some w) (sym c.index_mut-walker.ensures.value) in
    each_at (StandsIn (edits_of c.args.known.now)) walkers (c.args.worker - 1) walker c.requires.stand there

pub returns-clause-stand : goal.returns-clause-stand
returns-clause-stand c = stands_set c.follow.result (edits_of c.args.known.now) c.args.walkers.now.items (c.args.worker - 1) c.follow.new.walker c.requires.stand c.follow.ensures.stands

pub returns-clause-at : goal.returns-clause-at
returns-clause-at c = at_set c.follow.result c.args.walkers.now.items (c.args.worker - 1) c.args.point c.follow.new.walker c.follow.ensures.at

pub returns-clause-many : goal.returns-clause-many
returns-clause-many c = long_set c.args.walkers.now.items (c.args.worker - 1) c.follow.new.walker
