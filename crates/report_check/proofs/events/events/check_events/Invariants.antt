use Rattle.std.proofs.Common.{◌-◌, List, length}
use Rattle.run_report.specs.declared.rounds.RoundRecord.{RoundRecord}
use Rattle.lawful_runs.specs.Given.{GivenRound}
use Rattle.report_check.specs.OfEvents.Cursors.{IsWithin}
use Rattle.report_check.specs.OfEvents.Told.{HasBegun, GoOn}
use Rattle.report_check.proofs.events.events.check_events.Given as goal

abbrev pub invariant-loop-next : goal.invariant-loop-next
invariant-loop-next l = record {
  within : IsWithin l.report l.cursor;
  going : (its : List RoundRecord) (round : GivenRound) → HasBegun l.job l.report l.number its round l.fn.cursor l.fn.replay → GoOn l.job l.report l.number its round l.fn.replay l.cursor l.replay l.places;
}

abbrev pub decreases-loop-next : goal.decreases-loop-next
decreases-loop-next l = length l.report - l.cursor.line
