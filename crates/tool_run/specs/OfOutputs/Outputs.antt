-- What a finished run of a job puts: for each round with a capture, the packets that passed (this project's
-- own).
use Rattle.std.specs.Prelude.{List, [], ◌∷◌, ◌++◌, drop, Option, Some, None}
use Rattle.tc_base.specs.declared.hook.Hook.{Hook}
use Rattle.pcap_io.specs.declared.capture.Capture.{Capture}
use Rattle.pcap_io.specs.Written.{capture_bytes}
use Rattle.tool_run.specs.OfGenerated.Generated.{MadeFile}
use Rattle.job_lines.specs.declared.job.CaptureName.{CaptureName}
use Rattle.job_lines.specs.declared.job.Round.{Round}
use Rattle.run_report.specs.declared.outcomes.Outcome.{Outcome}
use Rattle.run_report.specs.declared.rounds.RoundRecord.{RoundRecord}
use Rattle.run_report.specs.declared.record.RunRecord.{RunRecord}
use Rattle.lawful_runs.specs.declared.loaded.LoadedJob.{LoadedJob}
use Rattle.lawful_runs.specs.Given.{arrivals_at, capture_count}
use Rattle.lawful_runs.specs.Outcomes.{passed_of}

-- the packets that passed of those that came at a hook, as their walks left them, in the order of bytes and
-- with the fractions of the capture that they came in
abbrev pub passed_capture : Hook → Capture → List Outcome → Capture
passed_capture hook capture outcomes = record {
  big = capture.big;
  nanos = capture.nanos;
  packets = passed_of (arrivals_at hook capture) outcomes;
}

-- the file of a round, where it has a capture: the first of those that are left. Where no packet passed it is
-- a header alone.
abbrev pub output_of : Option CaptureName → List Capture → RoundRecord → List MadeFile
output_of None captures it = []
output_of (Some name) [] it = []
output_of (Some name) (capture ∷ captures) it = record {
  name = name.out;
  bytes = capture_bytes (passed_capture name.hook capture it.outcomes);
} ∷ []

-- the files of rounds, in order; each round takes its capture, where it has one, from those that are left
abbrev pub outputs_from : List Round → List Capture → List RoundRecord → List MadeFile
outputs_from (round ∷ rounds) captures (it ∷ its) =
    output_of round.capture captures it
    ++ outputs_from rounds (drop (capture_count round.capture) captures) its
outputs_from [] captures its = []
outputs_from (round ∷ rounds) captures [] = []

-- THE OUTPUTS OF A RUN of a job. Two may have one name.
abbrev pub outputs_of : LoadedJob → RunRecord → List MadeFile
outputs_of loaded run = outputs_from loaded.job.rounds loaded.captures run.rounds
