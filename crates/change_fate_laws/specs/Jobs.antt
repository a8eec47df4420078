-- The job of which the fates of a change are told (this project's own).
use Rattle.std.specs.Prelude.{◌≡◌, ℕ, Bool, false, List, [], ◌∷◌, slice_get, Some, None}
use Rattle.tc_base.specs.declared.hook.Hook.{Hook}
use Rattle.pcap_io.specs.declared.capture.Capture.{Capture}
use Rattle.frame_edit.specs.declared.meta.Meta.{Meta}
use Rattle.walk_rules.specs.declared.verdict.Verdict.{Verdict}
use Rattle.walk_rules.specs.declared.verdict.Verdict.TheVariants as verdicts
use Rattle.job_lines.specs.declared.job.CaptureName.{CaptureName}
use Rattle.job_lines.specs.declared.job.Round.{Round}
use Rattle.job_lines.specs.Jobs.{IsJob}
use Rattle.run_report.specs.declared.outcomes.Outcome.{Outcome}
use Rattle.run_report.specs.declared.rounds.RoundRecord.{RoundRecord}
use Rattle.run_report.specs.declared.record.RunRecord.{RunRecord}
use Rattle.lawful_runs.specs.declared.loaded.LoadedJob.{LoadedJob}
use Rattle.walk_fate_laws.specs.Fates.{Fate, dropped, passed}

-- a first round with the batch alone
abbrev pub opening_round : List ℕ → Round
opening_round name = record {
  batches = record { control = 1; name = name; force = false } ∷ [];
  capture = None;
}

-- a second one with the change, and with the packets that come meanwhile
abbrev pub changing_round : List ℕ → Bool → CaptureName → Round
changing_round name force taken = record {
  batches = record { control = 1; name = name; force = force } ∷ [];
  capture = Some taken;
}

-- THE JOB: one control applies the batch and, in a second round, the change, while the packets of a capture
-- come at a hook. Its files may have any names.
pub record IsJobOf (batch change : List ℕ) (force : Bool) (hook : Hook) (capture : Capture)
    (loaded : LoadedJob) : Type 0 where
  pub job : IsJob loaded.job
  pub first : List ℕ
  pub second : List ℕ
  pub taken : CaptureName
  pub at_hook : taken.hook ≡ hook
  pub rounds : loaded.job.rounds ≡ opening_round first ∷ changing_round second force taken ∷ []
  pub batches : loaded.batches ≡ batch ∷ change ∷ []
  pub captures : loaded.captures ≡ capture ∷ []

-- the fate that a run records of a packet
abbrev pub fate_with : Verdict → List ℕ → Meta → Fate
fate_with verdicts.Drop bytes meta = dropped
fate_with verdicts.Pass bytes meta = passed bytes meta

abbrev pub fate_recorded : Outcome → Fate
fate_recorded outcome = fate_with outcome.verdict outcome.bytes outcome.meta

-- what a run records of the packet at a place of the second round
pub record IsRecorded (run : RunRecord) (place : ℕ) (outcome : Outcome) : Type 0 where
  pub round : RoundRecord
  pub second : slice_get run.rounds 1 ≡ Some round
  pub there : slice_get round.outcomes place ≡ Some outcome
