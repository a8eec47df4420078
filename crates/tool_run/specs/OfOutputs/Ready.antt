-- Rounds whose outputs can be put: what a job that is loaded and its lawful run are known to have.
use Rattle.frame_edit.specs.declared.limits.TheConstants.{FRAME_MAX}
use Rattle.std.specs.Prelude.{◌≡◌, ◌≤◌, List, [], ◌∷◌, length, drop, Option, Some, None}
use Rattle.std.specs.List.{All}
use Rattle.pcap_io.specs.declared.capture.Capture.{Capture}
use Rattle.pcap_io.specs.Captures.{AreShort}
use Rattle.job_lines.specs.declared.job.CaptureName.{CaptureName}
use Rattle.job_lines.specs.declared.job.Round.{Round}
use Rattle.job_lines.specs.Jobs.{IsName}
use Rattle.run_report.specs.declared.outcomes.Outcome.{Outcome}
use Rattle.run_report.specs.declared.rounds.RoundRecord.{RoundRecord}
use Rattle.lawful_runs.specs.Given.{capture_count}

-- one outcome for each packet, and no frame too long, as it came and as it was left
pub record AreWalks (capture : Capture) (outcomes : List Outcome) : Type 0 where
  pub one_each : length outcomes ≡ length capture.packets
  pub came : AreShort capture.packets
  pub left : All (λ (outcome : Outcome). length outcome.bytes ≤ FRAME_MAX) outcomes

-- a round has no capture, or one is left for it, its packets were walked, and its output has a name
abbrev pub IsReady : Option CaptureName → List Capture → RoundRecord → Type 0
IsReady None captures it = Unit {0}
IsReady (Some name) [] it = ⊥
IsReady (Some name) (capture ∷ captures) it = IsName name.out × AreWalks capture it.outcomes

-- so is each round, and each has a record
abbrev pub AreReady : List Round → List Capture → List RoundRecord → Type 0
AreReady [] captures [] = Unit {0}
AreReady [] captures (it ∷ its) = ⊥
AreReady (round ∷ rounds) captures [] = ⊥
AreReady (round ∷ rounds) captures (it ∷ its) =
    IsReady round.capture captures it × AreReady rounds (drop (capture_count round.capture) captures) its
