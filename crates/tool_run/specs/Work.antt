-- How the files that a request names let it end. A request's input files have an order: a later one counts
-- where those before it are held and well formed. `gen` reads no file: what it makes lets it end.
use Rattle.batch_run.specs.declared.limit.TheConstants.{COMMANDS_MAX}
use Rattle.walk_ends.specs.declared.limits.TheConstants.{PACKETS_MAX}
use Rattle.std.specs.Prelude.{◌≡◌, ◌⊎◌, ℕ, List, Option, is_some}
use Rattle.tc_base.specs.Outside.{Held}
use Rattle.pcap_io.specs.declared.capture.Capture.{Capture}
use Rattle.batch_run.specs.Runs.{Ran}
use Rattle.tool_words.specs.declared.status.InputKind.{InputKind}
use Rattle.tool_words.specs.declared.status.InputKind.TheVariants as kinds
use Rattle.tool_words.specs.declared.status.Status.{Status}
use Rattle.tool_run.specs.OfGenerated.Generated.{IsRunOf}
use Rattle.tool_words.specs.Command.{Request, Walk, Show, Run, Recheck, Gen, Trace, TraceReport, Foresee}
use Rattle.tool_words.specs.Ends.{status_after}
use Rattle.job_files.specs.OfInputs.Holdings.{HasTooManyLines, HasCapture, HasBreak}
use Rattle.job_files.specs.Faults.{JobBreaks, JobReads}
use Rattle.job_files.specs.Changes.{ChangeBreaks, ChangeReads}
use Rattle.tool_run.specs.Foresights.{ForesightEnds}
use Rattle.tool_run.specs.Holdings.{HasRun, HasCommands}
use Rattle.tool_run.specs.Rechecks.{JudgmentEnds, RecheckReads}
use Rattle.tool_run.specs.Runs.{JobEnds, JobEndsOnly}

-- the batch that a request names ends the run with this status
abbrev pub BatchEnds : Option Held → List ℕ → Status → Type 0
BatchEnds told batch status = (ran : Ran) × HasRun told batch ran × (status ≡ status_after (is_some ran.stop))

-- ALL INPUT IS HELD AND WELL FORMED, and so a request may end with this status
abbrev pub Ends : Option Held → Request → Status → Type 0
Ends told (Show b) status = BatchEnds told b status
Ends told (Walk hook b c o) status =
    BatchEnds told b status × ((capture : Capture) × HasCapture told PACKETS_MAX c capture)
Ends told (Trace hook b c) status =
    BatchEnds told b status × ((capture : Capture) × HasCapture told PACKETS_MAX c capture)
Ends told (Recheck job report) status = JudgmentEnds told job report status
Ends told (TraceReport job report) status = JudgmentEnds told job report status
Ends told (Run job) status = JobEnds told job status
Ends told (Foresee hook names force) status = ForesightEnds told hook names force status
Ends told (Gen count front) status =
    (ran : Ran) × IsRunOf count ran × (status ≡ status_after (is_some ran.stop))

-- and with no other: it is so wherever threads don't decide how a request ends
abbrev pub EndsOnly : Option Held → Request → Status → Type 0
EndsOnly told (Run job) status = JobEndsOnly told job status
EndsOnly told request status = Ends told request status

-- the batch under its name has too many commands
abbrev pub BatchBreaks : Option Held → List ℕ → List ℕ → ℕ → InputKind → Type 0
BatchBreaks told batch name place kind =
    (name ≡ batch) × HasTooManyLines told COMMANDS_MAX batch place × (kind ≡ kinds.TooManyLines)

-- an input file breaks its form, first at this place
abbrev pub Breaks : Option Held → Request → List ℕ → ℕ → InputKind → Type 0
Breaks told (Show b) name place kind = BatchBreaks told b name place kind
Breaks told (Walk hook b c o) name place kind =
    BatchBreaks told b name place kind ⊎ ((name ≡ c) × HasCommands told b × HasBreak told PACKETS_MAX c place kind)
Breaks told (Trace hook b c) name place kind =
    BatchBreaks told b name place kind ⊎ ((name ≡ c) × HasCommands told b × HasBreak told PACKETS_MAX c place kind)
Breaks told (Run job) name place kind = JobBreaks told job name place kind
Breaks told (Recheck job report) name place kind = JobBreaks told job name place kind
Breaks told (TraceReport job report) name place kind = JobBreaks told job name place kind
Breaks told (Foresee hook names force) name place kind = ChangeBreaks told names name place kind
Breaks told (Gen count front) name place kind = ⊥

-- an input file, with those before it held and well formed
abbrev pub IsRead : Option Held → Request → List ℕ → Type 0
IsRead told (Show b) name = name ≡ b
IsRead told (Walk hook b c o) name = (name ≡ b) ⊎ ((name ≡ c) × HasCommands told b)
IsRead told (Trace hook b c) name = (name ≡ b) ⊎ ((name ≡ c) × HasCommands told b)
IsRead told (Run job) name = JobReads told job name
IsRead told (Recheck job report) name = RecheckReads told job report name
IsRead told (TraceReport job report) name = RecheckReads told job report name
IsRead told (Foresee hook names force) name = ChangeReads told names name
IsRead told (Gen count front) name = ⊥
