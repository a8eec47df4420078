-- How far the rounds of a trace are written (this project's own).
use Rattle.std.specs.Prelude.{◌≡◌, ℕ, ◌+◌, List, [], ◌∷◌, ◌++◌, length, Option}
use Rattle.pcap_io.specs.declared.capture.Capture.{Capture}
use Rattle.job_lines.specs.declared.job.Round.{Round}
use Rattle.filter_state.specs.Sound.{Each}
use Rattle.run_report.specs.declared.rounds.RoundRecord.{RoundRecord}
use Rattle.run_report.specs.Counts.{edits_in}
use Rattle.run_report.specs.Reports.{round_lines}
use Rattle.lawful_runs.specs.Given.{GivenRound, rounds_from}
use Rattle.batch_trace.specs.Passed.{Entry}
use Rattle.batch_trace.specs.Traced.{text_in}
use Rattle.report_trace.specs.Traced.{rounds_parts}
use Rattle.report_trace.specs.Writing.{IsFit, IsBehind}

-- each packet of these rounds is fit, and has a record
abbrev pub AreFit : ℕ → ℕ → List GivenRound → List RoundRecord → Type 0
AreFit workers edits [] [] = Unit {0}
AreFit workers edits [] (it ∷ its) = ⊥
AreFit workers edits (round ∷ rounds) [] = ⊥
AreFit workers edits (round ∷ rounds) (it ∷ its) = (length it.outcomes ≡ length round.arrivals)
    × Each (IsFit workers edits) it.outcomes × AreFit workers edits rounds its

-- the lines of rounds, numbered from here, behind so many accepted edits
abbrev pub lines_of_rounds : ℕ → ℕ → List RoundRecord → List (List ℕ)
lines_of_rounds number before [] = []
lines_of_rounds number before (it ∷ its) = round_lines number before it
    ++ lines_of_rounds (number + 1) (before + edits_in (it ∷ [])) its

-- the texts of rounds are left
pub record RoundsLeft : Type 0 where
  pub first : Option (List ℕ)
  pub whole : List ℕ
  pub files : List (List ℕ)
  pub its : List RoundRecord
  pub lines : List (List ℕ)
  pub rest : List ℕ

pub record AreRoundsLeft (all : RoundsLeft) (entries : List Entry) (now : Option (List ℕ)) (left : List ℕ)
    (number before : ℕ) (rounds : List Round) (captures : List Capture) (workers : ℕ) : Type 0 where
  pub fit : AreFit workers (length entries) (rounds_from rounds all.files captures) all.its
  pub behind : IsBehind all.first now all.whole left (lines_of_rounds number before all.its ++ all.lines)
      (text_in (rounds_parts entries number before (rounds_from rounds all.files captures) all.its)
      ++ all.rest)
