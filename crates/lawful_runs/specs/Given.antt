-- What a job gives to run: its rounds, each with the commands of its batches and the packets of its capture
-- (this project's own).
use Rattle.walk_ends.specs.declared.limits.TheConstants.{PACKETS_MAX}
use Rattle.batch_run.specs.declared.limit.TheConstants.{COMMANDS_MAX}
use Rattle.std.specs.Prelude.{◌≡◌, ℕ, ◌≤◌, Bool, List, [], ◌∷◌, length, map, drop, sum_by, Option, Some, None}
use Rattle.std.specs.List.{All}
use Rattle.tc_base.specs.declared.hook.Hook.{Hook}
use Rattle.pcap_io.specs.declared.capture.Packet.{Packet}
use Rattle.pcap_io.specs.declared.capture.Capture.{Capture}
use Rattle.pcap_io.specs.Captures.{AreShort}
use Rattle.job_lines.specs.declared.job.BatchName.{BatchName}
use Rattle.job_lines.specs.declared.job.CaptureName.{CaptureName}
use Rattle.job_lines.specs.declared.job.Round.{Round}
use Rattle.job_lines.specs.Jobs.{IsJob}
use Rattle.job_lines.specs.Files.{most_rounds}
use Rattle.batch_run.specs.Commands.{Command, commands_of}
use Rattle.lawful_runs.specs.declared.loaded.LoadedJob.{LoadedJob}

-- the batch that a control applies in a round; a forced one goes on after a line that isn't accepted
pub record GivenBatch : Type 0 where
  pub control : ℕ
  pub force : Bool
  pub commands : List Command

-- a packet, and the hook at which it comes
pub record Arrival : Type 0 where
  pub hook : Hook
  pub packet : Packet

pub record GivenRound : Type 0 where
  pub batches : List GivenBatch
  pub arrivals : List Arrival

-- ---- files are handed out in the order in which the job names them
abbrev pub given_batches : List BatchName → List (List ℕ) → List GivenBatch
given_batches (name ∷ names) (bytes ∷ files) = record {
  control = name.control;
  force = name.force;
  commands = commands_of bytes;
} ∷ given_batches names files
given_batches [] files = []
given_batches (name ∷ names) [] = []

abbrev pub arrivals_at : Hook → Capture → List Arrival
arrivals_at hook capture = map (λ (packet : Packet). record { hook = hook; packet = packet }) capture.packets

abbrev pub given_arrivals : Option CaptureName → List Capture → List Arrival
given_arrivals None captures = []
given_arrivals (Some name) [] = []
given_arrivals (Some name) (capture ∷ captures) = arrivals_at name.hook capture

-- a round has one capture or none
abbrev pub capture_count : Option CaptureName → ℕ
capture_count None = 0
capture_count (Some name) = 1

abbrev pub rounds_from : List Round → List (List ℕ) → List Capture → List GivenRound
rounds_from [] files captures = []
rounds_from (round ∷ rounds) files captures =
    record { batches = given_batches round.batches files; arrivals = given_arrivals round.capture captures }
    ∷ rounds_from rounds (drop (length round.batches) files) (drop (capture_count round.capture) captures)

-- THE ROUNDS OF A JOB with what its files hold
abbrev pub given_rounds : LoadedJob → List GivenRound
given_rounds loaded = rounds_from loaded.job.rounds loaded.batches loaded.captures

-- ---- which jobs are loaded
abbrev pub batches_named : List Round → ℕ
batches_named rounds = sum_by (λ (round : Round). length round.batches) rounds

abbrev pub captures_named : List Round → ℕ
captures_named rounds = sum_by (λ (round : Round). capture_count round.capture) rounds

abbrev pub command_count : List (List ℕ) → ℕ
command_count files = sum_by (λ (bytes : List ℕ). length (commands_of bytes)) files

abbrev pub packet_count : List Capture → ℕ
packet_count captures = sum_by (λ (capture : Capture). length capture.packets) captures

-- a job with a file for each name, within the limits of a run
pub record IsLoaded (loaded : LoadedJob) : Type 0 where
  pub job : IsJob loaded.job
  pub rounds : length loaded.job.rounds ≤ most_rounds
  pub batches : length loaded.batches ≡ batches_named loaded.job.rounds
  pub captures : length loaded.captures ≡ captures_named loaded.job.rounds
  pub commands : command_count loaded.batches ≤ COMMANDS_MAX
  pub packets : packet_count loaded.captures ≤ PACKETS_MAX
  pub frames : All (λ (capture : Capture). AreShort capture.packets) loaded.captures
