-- Which lines may still follow in each state, for a job to be spelled.
use Rattle.std.proofs.Common.{◌≡◌, ℕ, ◌<◌, ◌≤◌, List, [], ◌∷◌, ◌++◌, Option, ap, append_assoc, append-nil, arith}
use Rattle.std.specs.Prelude.{map, codes}
use Rattle.std.specs.List.{AllByRecursion}
use Rattle.job_lines.specs.declared.job.BatchName.{BatchName}
use Rattle.job_lines.specs.declared.job.CaptureName.{CaptureName}
use Rattle.job_lines.specs.declared.job.Round.{Round}
use Rattle.job_lines.specs.declared.job.Job.{Job}
use Rattle.job_lines.specs.Jobs.{Words, count_line, round_line, batch_line, capture_lines, rounds_lines, lines_of, IsBatch, IsCapture, ByControl, IsRound, IsJob}
use Rattle.job_lines.specs.States.{State}
use Rattle.job_lines.specs.Steps.{round_of}

-- the job with these rounds more
abbrev pub with_rounds : Job → List Round → Job
with_rounds job later = record { workers = job.workers; controls = job.controls; rounds = job.rounds ++ later }

-- the controls rise, from above a last one on
abbrev pub Rising : ℕ → List BatchName → Type 0
Rising last [] = Unit {0}
Rising last (batch ∷ batches) = (last < batch.control) × Rising batch.control batches

-- behind whole rounds: further rounds and the end
pub record AfterRounds (spelled job : Job) (lines : List Words) : Type 0 where
  pub later : List Round
  pub rounds : AllByRecursion (IsRound job.controls) later
  pub whole : spelled ≡ with_rounds job later
  pub are : lines ≡ rounds_lines later

-- in a round: further batches, the capture, further rounds and the end
pub record AfterBatches (spelled job : Job) (batches : List BatchName) (last : ℕ) (lines : List Words) : Type 0 where
  pub more : List BatchName
  pub capture : Option CaptureName
  pub later : List Round
  pub each : AllByRecursion (IsBatch job.controls) more
  pub rising : Rising last more
  pub named : IsCapture capture
  pub rounds : AllByRecursion (IsRound job.controls) later
  pub whole : spelled ≡ with_rounds job (round_of (batches ++ more) capture ∷ later)
  pub are : lines ≡ map batch_line more ++ (capture_lines capture ++ rounds_lines later)

-- there are as many controls as a job has at most
abbrev pub Few : State → Type 0
Few State.Begun = Unit {0}
Few State.Headed = Unit {0}
Few (State.Staffed workers) = Unit {0}
Few (State.Ready job) = job.controls ≤ 4
Few (State.Open job batches last) = job.controls ≤ 4
Few (State.Ended job) = Unit {0}

-- the lines that spell a job behind a state
abbrev pub Language : Job → State → List Words → Type 0
Language spelled State.Begun lines = IsJob spelled × (lines ≡ lines_of spelled)
Language spelled State.Headed lines = IsJob spelled × (lines ≡ count_line (codes "workers") spelled.workers ∷ count_line (codes "controls") spelled.controls ∷ rounds_lines spelled.rounds)
Language spelled (State.Staffed workers) lines = (workers ≡ spelled.workers) × ((1 ≤ spelled.controls) × (spelled.controls ≤ 4) × AllByRecursion (IsRound spelled.controls) spelled.rounds) × (lines ≡ count_line (codes "controls") spelled.controls ∷ rounds_lines spelled.rounds)
Language spelled (State.Ready job) lines = AfterRounds spelled job lines
Language spelled (State.Open job batches last) lines = AfterBatches spelled job batches last lines
Language spelled (State.Ended job) lines = (spelled ≡ job) × (lines ≡ [])

-- the lines of a round and of those behind it
pub opened : (round : Round) (later : List Round) → rounds_lines (round ∷ later) ≡ round_line ∷ (map batch_line round.batches ++ (capture_lines round.capture ++ rounds_lines later))
opened round later = simp append_assoc

-- the end of no rounds more
pub with_none : (job : Job) → with_rounds job [] ≡ job
with_none job = ap (λ (rounds : List Round). let j : Job = record { workers = job.workers; controls = job.controls; rounds = rounds } in j) (append-nil job.rounds)

-- ---- the batches of a round
above_all : (last next : ℕ) (batches : List BatchName) → last < next → AllByRecursion (λ (later : BatchName). next < later.control) batches → AllByRecursion (λ (later : BatchName). last < later.control) batches
above_all last next [] lt all = tt
above_all last next (batch ∷ batches) lt all = (omega (arith, all.0), above_all last next batches lt all.1)

rise_all : (last : ℕ) (batches : List BatchName) → Rising last batches → AllByRecursion (λ (later : BatchName). last < later.control) batches
rise_all last [] rising = tt
rise_all last (batch ∷ batches) rising = (rising.0, above_all last batch.control batches rising.0 (rise_all batch.control batches rising.1))

pub by_control : (last : ℕ) (batches : List BatchName) → Rising last batches → ByControl batches
by_control last [] rising = tt
by_control last (batch ∷ batches) rising = (rise_all batch.control batches rising.1, by_control batch.control batches rising.1)

pub rising : (last : ℕ) (batches : List BatchName) → AllByRecursion (λ (later : BatchName). last < later.control) batches → ByControl batches → Rising last batches
rising last [] all by = tt
rising last (batch ∷ batches) all by = (all.0, rising batch.control batches by.0 by.1)

-- a control is above 0
pub above_zero_all : (controls : ℕ) (batches : List BatchName) → AllByRecursion (IsBatch controls) batches → AllByRecursion (λ (later : BatchName). 0 < later.control) batches
above_zero_all controls [] each = tt
above_zero_all controls (batch ∷ batches) each = (let low = each.0 in omega (arith, low.0), above_zero_all controls batches each.1)
