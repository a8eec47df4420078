use Rattle.std.proofs.Common.{ℕ, List, ◌++◌, drop}
use Rattle.filter_state.specs.declared.edit.Edit.{Edit}
use Rattle.run_report.specs.declared.record.RunRecord.{RunRecord}
use Rattle.lawful_runs.specs.declared.loaded.LoadedJob.{LoadedJob}
use Rattle.report_laws.specs.Stands.{closing}
use Rattle.report_check.specs.OfEvents.Cursors.{IsWithin, IsAt}
use Rattle.report_check.specs.Counting.{counted_lines}
use Rattle.report_check.proofs.closing.take_counters.Given as goal

abbrev pub invariant-loop-action : goal.invariant-loop-action
invariant-loop-action l = record {
  within : IsWithin l.report l.cursor;
  going : (loaded : LoadedJob) (run : RunRecord) (journal : List Edit) (left : List (List ℕ)) → IsAt loaded l.report l.fn.cursor (closing run journal (counted_lines l.counts l.made ++ left))
      → IsAt loaded l.report l.cursor (closing run journal (counted_lines l.counts (drop l.action-index l.made) ++ left));
}
