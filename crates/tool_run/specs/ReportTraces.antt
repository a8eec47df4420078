-- What is told of a report whose trace is asked for (this project's own).
use Rattle.std.specs.Prelude.{◌≡◌, ℕ, List, Option}
use Rattle.tc_base.specs.Outside.{Held}
use Rattle.lawful_runs.specs.declared.loaded.LoadedJob.{LoadedJob}
use Rattle.report_trace.specs.Passed.{Check, Replayed}
use Rattle.report_trace.specs.Passed.checks
use Rattle.report_trace.specs.Passed.replayed
use Rattle.report_trace.specs.Traced.{IsTraceOf}
use Rattle.tool_run.specs.Rechecks.{Judges, check_text}

-- of a lawful report its trace, and of another the line that a recheck of it writes
abbrev pub IsToldOf : LoadedJob → List ℕ → Check → List ℕ → Type 0
IsToldOf loaded bytes checks.Lawful text = IsTraceOf loaded bytes text
IsToldOf loaded bytes (checks.Unlawful line reason) text = text ≡ check_text (checks.Unlawful line reason)

-- THE JOB under the one name, the report under the other, what is answered of that report, and what is told
pub record GivesReportTrace (told : Option Held) (job report : List ℕ) (check : Check) (text : List ℕ)
    : Type 0 where
  pub judges : Judges told job report check
  pub tells : IsToldOf judges.loaded judges.bytes check text

-- the answer where the journal of a lawful report is kept
abbrev pub check_of : Replayed → Check
check_of (replayed.Lawful replay) = checks.Lawful
check_of (replayed.Unlawful line reason) = checks.Unlawful line reason
