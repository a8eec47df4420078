use Rattle.walk_trace.specs.Tallies.{count_at}
use Rattle.tc_report.proofs.Lines.{text_more}
use Rattle.batch_trace.specs.Meeting.{shown_standing}
use Rattle.batch_trace.proofs.standing.push_standing.Goals as goal

pub loop-filter-preserved : goal.loop-filter-preserved
loop-filter-preserved c = text_more (shown_standing c.args.hook (count_at c.args.tally.now)) _ _ _ c.args.brought.now c.loop-filter.filter-index _ c.loop-filter-test.true c.loop-filter.invariant c.in_ok-push_one.ensures
