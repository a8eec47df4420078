-- How far the lines of a job have come, with all that was read of them. This serves the proofs: no clause of
-- a public call speaks of it.
use Rattle.std.specs.Prelude.{ℕ, ◌+◌, List, length, Option, Some, None}
use Rattle.job_lines.specs.declared.job.BatchName.{BatchName}
use Rattle.job_lines.specs.declared.job.Job.{Job}
use Rattle.job_lines.specs.declared.draft.Stage.{Stage}
use Rattle.job_lines.specs.declared.draft.Stage.TheVariants as stages
use Rattle.job_lines.specs.declared.draft.Draft.{Draft}

-- what was read last: nothing; the header; the workers; the controls or a whole round, with the job up to
-- here; the first line or a batch of a round, with the job before it, its batches so far and the control of
-- the last one, or 0; the end
pub data State : Type 0 where
  Begun : State
  Headed : State
  Staffed : ℕ → State
  Ready : Job → State
  Open : Job → List BatchName → ℕ → State
  Ended : Job → State

-- the job of the rounds that are whole
abbrev pub whole_job : Draft → Job
whole_job draft = record { workers = draft.workers; controls = draft.controls; rounds = draft.rounds.items }

-- the state of a draft at a stage
abbrev pub state_at : Draft → Stage → State
state_at draft stages.Begun = State.Begun
state_at draft stages.Headed = State.Headed
state_at draft stages.Staffed = State.Staffed draft.workers
state_at draft stages.Ready = State.Ready (whole_job draft)
state_at draft (stages.Open last) = State.Open (whole_job draft) draft.batches.items last
state_at draft stages.Ended = State.Ended (whole_job draft)

-- the state of a draft
abbrev pub state_of : Draft → State
state_of draft = state_at draft draft.stage

-- how many rounds were begun
abbrev pub begun_in : State → ℕ
begun_in State.Begun = 0
begun_in State.Headed = 0
begun_in (State.Staffed workers) = 0
begun_in (State.Ready job) = length job.rounds
begun_in (State.Open job batches last) = length job.rounds + 1
begun_in (State.Ended job) = length job.rounds

-- the job of lines that end in a state
abbrev pub job_at : State → Option Job
job_at State.Begun = None
job_at State.Headed = None
job_at (State.Staffed workers) = None
job_at (State.Ready job) = None
job_at (State.Open job batches last) = None
job_at (State.Ended job) = Some job
