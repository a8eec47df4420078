-- Why no lawful report goes on with a line (this project's own).
use Rattle.std.specs.Prelude.{◌≡◌, ◌⊎◌, ℕ, ◌+◌, ◌≤◌, ◌==◌, suc, if◌then◌else◌}
use Rattle.std.specs.Prelude.{List, [], ◌∷◌, ◌++◌, length, slice_get, Some}
use Rattle.filter_state.specs.declared.edit.Edit.{Edit}
use Rattle.batch_run.specs.Commands.{Command}
use Rattle.walk_rules.specs.Walks.{Outcome as WalkOutcome}
use Rattle.point_walks.specs.declared.at_points.Thing.TheVariants as things
use Rattle.point_walks.specs.declared.fault.PointFault.{PointFault}
use Rattle.point_walks.specs.declared.fault.PointFault.TheVariants as faults
use Rattle.point_walks.specs.Faults.{IsFault}
use Rattle.run_report.specs.declared.events.Event.{Event}
use Rattle.run_report.specs.declared.rounds.RoundRecord.{RoundRecord}
use Rattle.run_report.specs.PacketTexts.{packet_line}
use Rattle.lawful_runs.specs.declared.loaded.LoadedJob.{LoadedJob}
use Rattle.lawful_runs.specs.Given.{Arrival, GivenBatch, GivenRound, given_rounds}
use Rattle.lawful_runs.specs.Events.{IsAmong}
use Rattle.report_laws.specs.OfLineCuts.Cuts.{cut}
use Rattle.report_laws.specs.Stands.{Stand, start, opening, inside, closing, IsPath, IsWhole}
use Rattle.report_laws.specs.OfNextLines.Left.{IsLeft, IsNextOf, NoneLeft, next_in}
use Rattle.report_laws.specs.OfNextLines.Walks.{WalksAt, answers_of, floor_for, recorded_by}
use Rattle.tool_words.specs.declared.reason.Reason.{Reason}
use Rattle.tool_words.specs.declared.reason.Reason.TheVariants as reasons
use Rattle.report_check.specs.OfEvents.Blanks.{control_in}
use Rattle.report_check.specs.OfReading.Packets.{ShowsPoints}

-- ---- where the event of a command is due
-- the line names no control with a command left
abbrev pub NamesNoBatch : GivenRound → RoundRecord → List ℕ → Type 0
NamesNoBatch round it line = (batch : GivenBatch) (command : Command) → IsAmong batch round.batches
    → next_in it.events batch ≡ Some command → control_in line ≡ Some batch.control → ⊥

-- it names the control of the next event, which came out otherwise
abbrev pub NamesNext : GivenRound → List Edit → RoundRecord → List Edit → List ℕ → Type 0
NamesNext round before it edits line = (event : Event) × (own : List Edit)
    × IsNextOf round before it edits event own × (control_in line ≡ Some event.control)

abbrev pub EventReason : GivenRound → List Edit → RoundRecord → List Edit → List ℕ → Reason → Type 0
EventReason round before it edits line reason = (NamesNoBatch round it line × (reason ≡ reasons.Event))
    ⊎ (NamesNext round before it edits line × (reason ≡ reasons.Result))

-- ---- where a packet is due
-- what the points have against them
abbrev pub reason_of : PointFault → Reason
reason_of faults.Floor = reasons.Floor
reason_of faults.Early = reasons.Early
reason_of faults.Late = reasons.Late
reason_of (faults.Gone (things.Mask serial)) = reasons.Mask
reason_of (faults.Gone thing) = reasons.Action
reason_of faults.Falling = reasons.Falling
reason_of faults.TooMany = reasons.TooMany
reason_of faults.TooFew = reasons.TooFew

-- in which word two texts part, counted from 0: so many blanks stand before the first byte that differs
abbrev pub parting : List ℕ → List ℕ → ℕ
parting [] other = 0
parting (byte ∷ bytes) [] = 0
parting (byte ∷ bytes) (first ∷ others) = if byte == first
    then (if byte == 32 then suc (parting bytes others) else parting bytes others)
    else 0

-- the fifth word of a packet's line is the verdict
abbrev pub ending_reason : ℕ → Reason
ending_reason word = if word == 4 then reasons.Verdict else reasons.Frame

-- the packet can't have been walked at these points by that worker
abbrev pub FaultReason : List RoundRecord → List Edit → RoundRecord → List Edit → Arrival → ℕ → List ℕ
    → Reason → Type 0
FaultReason its before it edits arrival worker points reason = (fault : PointFault)
    × IsFault (answers_of (before ++ edits)) arrival.hook arrival.packet.bytes
    (record { floor = floor_for its before it worker; ceiling = length (before ++ edits) }) points fault
    × (reason ≡ reason_of fault)

-- or it can, and that walk has another line
abbrev pub WalkReason : List RoundRecord → List Edit → RoundRecord → List Edit → Arrival → List ℕ → ℕ
    → List ℕ → Reason → Type 0
WalkReason its before it edits arrival line worker points reason = (walk : WalkOutcome)
    × WalksAt (before ++ edits) (floor_for its before it worker) (length (before ++ edits)) arrival points
    walk
    × (reason ≡ ending_reason (parting line
    (packet_line (1 + length it.outcomes) (recorded_by worker points walk))))

-- a line that shows a worker and points: the job doesn't have that worker, or it has
abbrev pub ShownReason : ℕ → List RoundRecord → List Edit → RoundRecord → List Edit → Arrival → List ℕ → ℕ
    → List ℕ → Reason → Type 0
ShownReason workers its before it edits arrival line worker points reason =
    ((1 ≤ worker → worker ≤ workers → ⊥) × (reason ≡ reasons.Worker))
    ⊎ ((1 ≤ worker) × (worker ≤ workers)
    × (FaultReason its before it edits arrival worker points reason
    ⊎ WalkReason its before it edits arrival line worker points reason))

-- a line that isn't the packet's at all, or shows a worker and points
abbrev pub PacketReason : ℕ → List RoundRecord → List Edit → RoundRecord → List Edit → Arrival → List ℕ
    → Reason → Type 0
PacketReason workers its before it edits arrival line reason =
    (((worker : ℕ) (points : List ℕ) → ShowsPoints line (1 + length it.outcomes) worker points → ⊥)
    × (reason ≡ reasons.Packet))
    ⊎ ((worker : ℕ) × (points : List ℕ) × ShowsPoints line (1 + length it.outcomes) worker points
    × ShownReason workers its before it edits arrival line worker points reason)

-- ---- in a round a command is left, or none and a packet, or neither
abbrev pub RoundReason : ℕ → GivenRound → List RoundRecord → List Edit → RoundRecord → List Edit → List ℕ
    → Reason → Type 0
RoundReason workers round its before it edits line reason =
    (IsLeft round.batches it.events × EventReason round before it edits line reason)
    ⊎ ((NoneLeft round.batches it.events × ((arrival : Arrival)
    × (slice_get round.arrivals (length it.outcomes) ≡ Some arrival)
    × PacketReason workers its before it edits arrival line reason))
    ⊎ (IsWhole round it × (reason ≡ reasons.Round)))

-- behind the rounds come the counters, the summary and `end`
abbrev pub due_reason : List (List ℕ) → Reason
due_reason [] = reasons.Behind
due_reason (last ∷ []) = reasons.End
due_reason (summary ∷ last ∷ []) = reasons.Summary
due_reason (counter ∷ summary ∷ last ∷ left) = reasons.Counter

-- ---- WHY NO LAWFUL REPORT GOES ON WITH A LINE from a stand: each line that can't come has one reason
abbrev pub IsReason : LoadedJob → Stand → List ℕ → Reason → Type 0
IsReason loaded start line reason = reason ≡ reasons.Title
IsReason loaded (opening its journal) line reason = reason ≡ reasons.Round
IsReason loaded (inside its before it edits) line reason = (round : GivenRound)
    × (slice_get (given_rounds loaded) (length its) ≡ Some round)
    × RoundReason loaded.job.workers round its before it edits line reason
IsReason loaded (closing run journal left) line reason = reason ≡ due_reason left

-- with the lines that are left: without one the report is cut, whatever was due
abbrev pub IsWhy : LoadedJob → Stand → List (List ℕ) → Reason → Type 0
IsWhy loaded stand [] reason = reason ≡ reasons.Cut
IsWhy loaded stand (line ∷ lines) reason = IsReason loaded stand line reason

-- of bytes, and of the line of that number
pub record IsReasonAt (loaded : LoadedJob) (bytes : List ℕ) (line : ℕ) (reason : Reason) : Type 0 where
  pub before : List (List ℕ)
  pub left : List (List ℕ)
  pub stand : Stand
  pub whole : cut bytes ≡ before ++ left
  pub count : line ≡ length before + 1
  pub path : IsPath loaded start before stand
  pub why : IsWhy loaded stand left reason
