use Rattle.std.proofs.Common.{◌-◌}
use Rattle.report_check.specs.OfEvents.Cursors.{IsWithin}
use Rattle.report_check.specs.Between.{IsBetween}
use Rattle.report_check.proofs.rounds.check_rounds.Given as goal

abbrev pub invariant-loop-number : goal.invariant-loop-number
invariant-loop-number l = record {
  within : IsWithin l.report l.progress.cursor;
  between : IsBetween l.job l.report (l.number - 1) l.progress;
}
