-- Jobs that apply a batch and then replay a capture (this project's own).
use Rattle.std.specs.Prelude.{◌≡◌, ℕ, false, List, [], ◌∷◌}
use Rattle.tc_base.specs.declared.hook.Hook.{Hook}
use Rattle.pcap_io.specs.declared.capture.Capture.{Capture}
use Rattle.batch_run.specs.Commands.{Command}
use Rattle.lawful_runs.specs.declared.loaded.LoadedJob.{LoadedJob}
use Rattle.lawful_runs.specs.Given.{GivenBatch, GivenRound, arrivals_at, given_rounds}

-- a batch that stops at its first line that isn't accepted
abbrev pub unforced : ℕ → List Command → GivenBatch
unforced control commands = record { control = control; force = false; commands = commands }

-- a round in which one control applies a batch, and no packet comes
abbrev pub batch_round : ℕ → List Command → GivenRound
batch_round control commands = record { batches = unforced control commands ∷ []; arrivals = [] }

-- a round in which the packets of a capture come, and no control applies a batch
abbrev pub capture_round : Hook → Capture → GivenRound
capture_round hook capture = record { batches = []; arrivals = arrivals_at hook capture }

-- THE JOB HAS THE BATCH IN ITS FIRST ROUND AND THE CAPTURE IN ITS SECOND, and no third round
abbrev pub IsBatchThenCapture : LoadedJob → ℕ → List Command → Hook → Capture → Type 0
IsBatchThenCapture loaded control commands hook capture =
    given_rounds loaded ≡ batch_round control commands ∷ capture_round hook capture ∷ []
