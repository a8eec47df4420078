use Rattle.std.proofs.Common.{◌∙◌, ap, arith}
use Rattle.walk_ends.specs.Passing.{is_pass}
use Rattle.tc_report.proofs.Lines.{take_whole}
use Rattle.run_report.specs.Kept.{outcome_seen}
use Rattle.run_report.specs.Counts.{passed_count}
use Rattle.run_report.proofs.Counts.{passed_more, at_most_one}
use Rattle.run_report.proofs.summing.count_passed.Goals as goal

pub overflow_add-count : goal.overflow_add-count
overflow_add-count c = omega (arith, c.passed-count.ensures, at_most_one (is_pass c.at.result.verdict))

pub loop-place-preserved : goal.loop-place-preserved
loop-place-preserved c = record {
  counted = passed_more c.args.outcomes.now c.loop-place.place (outcome_seen c.at.result) c.loop-place.count c.passed-count.result c.at.ensures c.loop-place.invariant.counted c.passed-count.ensures;
  within = omega (arith, c.passed-count.ensures, at_most_one (is_pass c.at.result.verdict), c.loop-place.invariant.within);
}

pub returns-clause-value : goal.returns-clause-value
returns-clause-value c = c.loop-place.invariant.counted ∙ ap passed_count (take_whole c.args.outcomes.now c.loop-place.place (omega arith))
