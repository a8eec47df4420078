use Rattle.std.proofs.Common.{[], arith}
use Rattle.walk_trace.specs.Tallies.{count_at}
use Rattle.batch_trace.proofs.Passed.{text_more}
use Rattle.report_trace.proofs.Decided.{line_with, as_counted, all_decided}
use Rattle.report_trace.proofs.writing.decided_text.Goals as goal

pub loop-filter-preserved : goal.loop-filter-preserved
loop-filter-preserved c =
    text_more (line_with (count_at c.args.tally.now)) [] c.loop-filter.text.items _ c.args.brought.now c.loop-filter.filter-index _ c.loop-filter-test.true c.loop-filter.invariant
    (as_counted _ c.loop-filter.text.items _ _ _ c.count.ensures c.in_ok-push_decided.ensures)

pub returns : goal.returns
returns c = all_decided (count_at c.args.tally.now) c.args.brought.now c.loop-filter.text.items c.loop-filter.filter-index (let end = c.loop-filter-test.false in omega (arith, end)) c.loop-filter.invariant
