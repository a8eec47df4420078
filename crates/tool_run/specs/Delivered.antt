-- What a run put and wrote.
use Rattle.std.specs.Prelude.{◌≡◌, ◌⊎◌, ℕ, Bool, List, Option, Some, None, is_some}
use Rattle.tc_base.specs.Outside.{Held, Appended, AppendsUpTo, OthersStay, Stands}
use Rattle.tc_base.specs.declared.hook.Hook.{Hook}
use Rattle.batch_run.specs.Runs.{Ran}
use Rattle.tc_report.specs.OfShownBatches.Shown.{shown}
use Rattle.tool_run.specs.OfGenerated.Generated.{IsRunOf, made_files, made_text}
use Rattle.tool_words.specs.declared.status.Status.{Status}
use Rattle.tool_words.specs.declared.status.Status.TheVariants as statuses
use Rattle.tool_words.specs.Command.{ChangeFiles, Request, Walk, Show, Run, Recheck, Gen, Trace, TraceReport, Foresee}
use Rattle.report_trace.specs.Passed.{Check}
use Rattle.tool_words.specs.Requests.{Names}
use Rattle.tool_words.specs.Ends.{status_after}
use Rattle.tool_run.specs.Holdings.{HasRun, Gives, GivesTrace}
use Rattle.tool_run.specs.Foresights.{GivesForesight}
use Rattle.tool_run.specs.Made.{AllStand, AllElseStay, PutUpTo}
use Rattle.tool_run.specs.Rechecks.{Judges, status_of_check, check_text}
use Rattle.tool_run.specs.ReportTraces.{GivesReportTrace}
use Rattle.tool_run.specs.Runs.{RanJob, RanSoFar}

-- the text that the held batch gives was written, whole, and nothing put
pub record Showed (held_old held_new : Option Held) (written_old written_new : Option (List ℕ))
    (name : List ℕ) (status : Status) : Type 0 where
  pub ran : Ran
  pub runs : HasRun held_old name ran
  pub ended : status ≡ status_after (is_some ran.stop)
  pub same : held_new ≡ held_old
  pub wrote : Appended written_old written_new (shown ran)

-- the output was put and the text written, as what is held gives them
pub record Walked (held_old held_new : Option Held) (written_old written_new : Option (List ℕ)) (hook : Hook)
    (names : Names) (status : Status) : Type 0 where
  pub output : List ℕ
  pub text : List ℕ
  pub gives : Gives held_old hook names output text status
  pub put : Stands held_new names.output output
  pub wrote : Appended written_old written_new text

-- the trace that what is held gives was written, and nothing put
pub record Traced (held_old held_new : Option Held) (written_old written_new : Option (List ℕ)) (hook : Hook)
    (batch capture : List ℕ) (status : Status) : Type 0 where
  pub text : List ℕ
  pub gives : GivesTrace held_old hook batch capture text status
  pub same : held_new ≡ held_old
  pub wrote : Appended written_old written_new text

-- the answer of what is held was written, and nothing put
pub record Rechecked (held_old held_new : Option Held) (written_old written_new : Option (List ℕ))
    (job report : List ℕ) (status : Status) : Type 0 where
  pub check : Check
  pub judges : Judges held_old job report check
  pub ended : status ≡ status_of_check check
  pub same : held_new ≡ held_old
  pub wrote : Appended written_old written_new (check_text check)

-- what is told of the held report was written, and nothing put
pub record TracedReport (held_old held_new : Option Held) (written_old written_new : Option (List ℕ))
    (job report : List ℕ) (status : Status) : Type 0 where
  pub check : Check
  pub text : List ℕ
  pub gives : GivesReportTrace held_old job report check text
  pub ended : status ≡ status_of_check check
  pub same : held_new ≡ held_old
  pub wrote : Appended written_old written_new text

-- the text that foresees the packets of **the** change of the held files was written, and nothing put
pub record Foresaw (held_old held_new : Option Held) (written_old written_new : Option (List ℕ)) (hook : Hook)
    (names : ChangeFiles) (force : Bool) (status : Status) : Type 0 where
  pub text : List ℕ
  pub gives : GivesForesight held_old hook names force text status
  pub same : held_new ≡ held_old
  pub wrote : Appended written_old written_new text

-- the four files of so many filters stand, every other name holds what it held, and the text was written
pub record Made (held_old held_new : Option Held) (written_old written_new : Option (List ℕ)) (count : ℕ)
    (front : List ℕ) (status : Status) : Type 0 where
  pub ran : Ran
  pub runs : IsRunOf count ran
  pub ended : status ≡ status_after (is_some ran.stop)
  pub stand : AllStand held_new (made_files count front ran)
  pub others : AllElseStay held_old held_new (made_files count front ran)
  pub wrote : Appended written_old written_new (made_text count ran)

-- ALL WAS PUT AND WRITTEN that the words and the held files give
abbrev pub DeliveredTo : Option Held → Option Held → Option (List ℕ) → Option (List ℕ) → Request → Status
    → Type 0
DeliveredTo held_old held_new written_old written_new (Show b) status =
    Showed held_old held_new written_old written_new b status
DeliveredTo held_old held_new written_old written_new (Walk hook b c o) status =
    Walked held_old held_new written_old written_new hook (record { batch = b; capture = c; output = o })
    status
DeliveredTo held_old held_new written_old written_new (Trace hook b c) status =
    Traced held_old held_new written_old written_new hook b c status
DeliveredTo held_old held_new written_old written_new (Foresee hook names force) status =
    Foresaw held_old held_new written_old written_new hook names force status
DeliveredTo held_old held_new written_old written_new (Gen count front) status =
    Made held_old held_new written_old written_new count front status
DeliveredTo held_old held_new written_old written_new (Run job) status =
    RanJob held_old held_new written_old written_new job status
DeliveredTo held_old held_new written_old written_new (Recheck job report) status =
    Rechecked held_old held_new written_old written_new job report status
DeliveredTo held_old held_new written_old written_new (TraceReport job report) status =
    TracedReport held_old held_new written_old written_new job report status

abbrev pub DeliveredIn : Option Held → Option Held → Option (List ℕ) → Option (List ℕ) → Option Request
    → Status → Type 0
DeliveredIn held_old held_new written_old written_new None status = ⊥
DeliveredIn held_old held_new written_old written_new (Some request) status =
    DeliveredTo held_old held_new written_old written_new request status

-- where words or input are at fault, nothing is put and nothing written
abbrev pub LeavesAll : Option Held → Option Held → Option (List ℕ) → Option (List ℕ) → Type 0
LeavesAll held_old held_new written_old written_new = (held_new ≡ held_old) × (written_new ≡ written_old)

-- the other answers come once something was put or written: that a report isn't lawful is itself written, and so is
-- each packet by which a change isn't hitless
abbrev pub LeavesAllUnlessRun : Option Held → Option Held → Option (List ℕ) → Option (List ℕ) → Status
    → Type 0
LeavesAllUnlessRun held_old held_new written_old written_new statuses.Done = Unit {0}
LeavesAllUnlessRun held_old held_new written_old written_new (statuses.LinesRefused count) = Unit {0}
LeavesAllUnlessRun held_old held_new written_old written_new (statuses.NotLawful line reason) = Unit {0}
LeavesAllUnlessRun held_old held_new written_old written_new (statuses.NotHitless count) = Unit {0}
LeavesAllUnlessRun held_old held_new written_old written_new statuses.WriteFault = Unit {0}
LeavesAllUnlessRun held_old held_new written_old written_new (statuses.NoMemory memory) = Unit {0}
LeavesAllUnlessRun held_old held_new written_old written_new status =
    LeavesAll held_old held_new written_old written_new

-- a front of the text that the held batch gives was written
pub record ShowedFront (held_old : Option Held) (written_old written_new : Option (List ℕ)) (name : List ℕ)
    : Type 0 where
  pub ran : Ran
  pub runs : HasRun held_old name ran
  pub wrote : AppendsUpTo written_old written_new (shown ran)

-- a front of the trace was written
pub record TracedFront (held_old : Option Held) (written_old written_new : Option (List ℕ)) (hook : Hook)
    (batch capture : List ℕ) : Type 0 where
  pub text : List ℕ
  pub status : Status
  pub gives : GivesTrace held_old hook batch capture text status
  pub wrote : AppendsUpTo written_old written_new text

-- a front of the text that foresees was written
pub record ForesawFront (held_old : Option Held) (written_old written_new : Option (List ℕ)) (hook : Hook)
    (names : ChangeFiles) (force : Bool) : Type 0 where
  pub text : List ℕ
  pub status : Status
  pub gives : GivesForesight held_old hook names force text status
  pub wrote : AppendsUpTo written_old written_new text

-- a front of the answer was written
pub record RecheckedFront (held_old : Option Held) (written_old written_new : Option (List ℕ))
    (job report : List ℕ) : Type 0 where
  pub check : Check
  pub judges : Judges held_old job report check
  pub wrote : AppendsUpTo written_old written_new (check_text check)

-- a front of what is told of the report was written
pub record TracedReportFront (held_old : Option Held) (written_old written_new : Option (List ℕ))
    (job report : List ℕ) : Type 0 where
  pub check : Check
  pub text : List ℕ
  pub gives : GivesReportTrace held_old job report check text
  pub wrote : AppendsUpTo written_old written_new text

-- a front of a walk's text was written, and then the whole output was put before
pub record WroteFront (held_old held_new : Option Held) (written_old written_new : Option (List ℕ))
    (hook : Hook) (names : Names) : Type 0 where
  pub output : List ℕ
  pub text : List ℕ
  pub status : Status
  pub gives : Gives held_old hook names output text status
  pub put : Stands held_new names.output output
  pub wrote : AppendsUpTo written_old written_new text

-- how far a walk came, however it ended: only the output's name may hold something else, and nothing is
-- written before the output stands whole
pub record WalkedSoFar (held_old held_new : Option Held) (written_old written_new : Option (List ℕ))
    (hook : Hook) (names : Names) : Type 0 where
  pub others : OthersStay held_old held_new names.output
  pub front : (written_new ≡ written_old) ⊎ WroteFront held_old held_new written_old written_new hook names

-- how far `gen` came, however it ended: its files are put one after the other, and nothing is written before
-- all four stand
pub record MadeSoFar (held_old held_new : Option Held) (written_old written_new : Option (List ℕ)) (count : ℕ)
    (front : List ℕ) : Type 0 where
  pub ran : Ran
  pub runs : IsRunOf count ran
  pub put : PutUpTo held_old held_new (made_files count front ran)
  pub front_written : (written_new ≡ written_old) ⊎ (AllStand held_new (made_files count front ran)
      × AppendsUpTo written_old written_new (made_text count ran))

-- HOW FAR A RUN CAME, however it ended
abbrev pub CameSoFar : Option Held → Option Held → Option (List ℕ) → Option (List ℕ) → Request → Type 0
CameSoFar held_old held_new written_old written_new (Show b) =
    (held_new ≡ held_old) × ((written_new ≡ written_old) ⊎ ShowedFront held_old written_old written_new b)
CameSoFar held_old held_new written_old written_new (Walk hook b c o) =
    WalkedSoFar held_old held_new written_old written_new hook (record { batch = b; capture = c; output = o })
CameSoFar held_old held_new written_old written_new (Trace hook b c) =
    (held_new ≡ held_old)
    × ((written_new ≡ written_old) ⊎ TracedFront held_old written_old written_new hook b c)
CameSoFar held_old held_new written_old written_new (Run job) =
    RanSoFar held_old held_new written_old written_new job
CameSoFar held_old held_new written_old written_new (Recheck job report) =
    (held_new ≡ held_old)
    × ((written_new ≡ written_old) ⊎ RecheckedFront held_old written_old written_new job report)
CameSoFar held_old held_new written_old written_new (TraceReport job report) =
    (held_new ≡ held_old)
    × ((written_new ≡ written_old) ⊎ TracedReportFront held_old written_old written_new job report)
CameSoFar held_old held_new written_old written_new (Foresee hook names force) =
    (held_new ≡ held_old)
    × ((written_new ≡ written_old) ⊎ ForesawFront held_old written_old written_new hook names force)
CameSoFar held_old held_new written_old written_new (Gen count front) =
    MadeSoFar held_old held_new written_old written_new count front

-- the same for any words
abbrev pub CameSoFarIn : Option Held → Option Held → Option (List ℕ) → Option (List ℕ) → Option Request
    → Type 0
CameSoFarIn held_old held_new written_old written_new None =
    LeavesAll held_old held_new written_old written_new
CameSoFarIn held_old held_new written_old written_new (Some request) =
    CameSoFar held_old held_new written_old written_new request
