-- The answer of a run that is due is the one that comes, and it comes where the job is ready.
use Rattle.std.proofs.Common.{◌≡◌, ◌⊎◌, inl, inr, ◌∙◌, ℕ, List, Option, Some, None, Ok, Err, refl, sym, subst}
use Rattle.std.specs.Prelude.{IsSomeAnd}
use Rattle.tc_base.specs.Outside.{Held, Rose}
use Rattle.lawful_runs.specs.declared.loaded.LoadedJob.{LoadedJob}
use Rattle.lawful_runs.specs.Lawful.{IsLawfulRun}
use Rattle.tool_words.specs.declared.status.InputKind.{InputKind}
use Rattle.tool_words.specs.declared.status.Status.{Status}
use Rattle.tool_words.specs.declared.status.Status.TheVariants as statuses
use Rattle.tool_words.specs.Command.{Run}
use Rattle.tool_words.specs.Ends.{IsAllDone}
use Rattle.job_files.specs.OfInputs.Holdings.{Holds}
use Rattle.job_files.specs.Faults.{JobBreaks, JobReads}
use Rattle.job_files.proofs.Exact.{stands}
use Rattle.tool_run.specs.Runs.{JobEnds, JobEndsOnly}
use Rattle.tool_run.specs.Causes.{DueTo, AllowedTo, CausedTo}
use Rattle.tool_run.specs.Ready.{RunReady}
use Rattle.tool_run.proofs.JobFaults.{IsJobBreak, one_job, no_break, one_break}
use Rattle.tc_base.specs.Memory.{no_memory}

-- ---- what may come: some lawful run's end, or the first fault of the job's files
abbrev IsRunAnswer : Option Held → List ℕ → Status → Type 0
IsRunAnswer told job status = JobEnds told job status ⊎ IsJobBreak told job status

run_answer : (told : Option Held) (job : List ℕ) (status : Status) → AllowedTo told (Run job) status
    → IsRunAnswer told job status
run_answer told job statuses.Done allowed = inl allowed
run_answer told job (statuses.LinesRefused n) allowed = inl allowed
run_answer told job (statuses.BadInput name place kind) allowed = inr (name, place, kind, allowed, refl)
run_answer told job (statuses.ReadFault name) allowed = absurd allowed
run_answer told job (statuses.NotLawful line reason) allowed = inl allowed
run_answer told job (statuses.NotHitless n) allowed = inl allowed
run_answer told job statuses.Usage allowed = absurd allowed
run_answer told job statuses.WriteFault allowed = absurd allowed
run_answer told job (statuses.NoMemory memory) allowed = absurd allowed

-- ---- what is due: the end of every lawful run, or that fault
abbrev IsRunDue : Option Held → List ℕ → Status → Type 0
IsRunDue told job status = JobEndsOnly told job status ⊎ IsJobBreak told job status

run_due : (told : Option Held) (job : List ℕ) (status : Status) → DueTo told (Run job) status
    → IsRunDue told job status
run_due told job statuses.Done due = inl due
run_due told job (statuses.LinesRefused n) due = inl due
run_due told job (statuses.BadInput name place kind) due = inr (name, place, kind, due, refl)
run_due told job (statuses.ReadFault name) due = absurd due
run_due told job (statuses.NotLawful line reason) due = inl due
run_due told job (statuses.NotHitless n) due = inl due
run_due told job statuses.Usage due = absurd due
run_due told job statuses.WriteFault due = absurd due
run_due told job (statuses.NoMemory memory) due = absurd due

module _ (held : Held) (job : List ℕ) where
  abbrev told : Option Held
  told = Some held

  one_end : (x y : Status) → JobEnds told job x → JobEndsOnly told job y → x ≡ y
  one_end x y (loaded, run, of, is) (other, has, only) =
      let same = one_job held job loaded other of.held has in
      is ∙ sym (only run (subst (λ (l : LoadedJob). IsLawfulRun l run) same of.lawful))

  answer_is_due : (x y : Status) → IsRunAnswer told job x → IsRunDue told job y → x ≡ y
  answer_is_due x y (inl h) (inl k) = one_end x y h k
  answer_is_due x y (inl (loaded, run, of, is)) (inr (name, place, kind, breaks, told_as)) =
      absurd (no_break held job loaded name place kind of.held breaks)
  answer_is_due x y (inr (name, place, kind, breaks, told_as)) (inl (loaded, has, only)) =
      absurd (no_break held job loaded name place kind has breaks)
  answer_is_due x y (inr h) (inr k) = one_break held job x y h k

  -- an answer that may come is the one that is due
  pub one_run : (x y : Status) → AllowedTo told (Run job) x → DueTo told (Run job) y → x ≡ y
  one_run x y allowed due = answer_is_due x y (run_answer told job x allowed) (run_due told job y due)

  -- what is read stands, where an answer is due
  run_stands : (name : List ℕ) (status : Status) → IsRunDue told job status → JobReads told job name
      → (found : List ℕ) × Holds told name found
  run_stands name status (inl (loaded, has, only)) reads = stands held job name (Ok loaded) has reads
  run_stands name status (inr (file, place, kind, breaks, is)) reads =
      stands held job name (Err (statuses.BadInput file place kind)) breaks reads

  pub ran_stands : (name : List ℕ) (status : Status) → DueTo told (Run job) status → JobReads told job name
      → (found : List ℕ) × Holds told name found
  ran_stands name status due reads = run_stands name status (run_due told job status due) reads

-- ---- where the job is ready and no count rose
stands_ready : (told : Option Held) (job name : List ℕ) → RunReady told job → JobReads told job name
    → IsSomeAnd told (λ h. h name ≡ None) → ⊥
stands_ready None job name ready reads missing = absurd missing
stands_ready (Some held) job name ready reads missing =
    let there = stands held job name (Ok ready.loaded) ready.job_stands reads in
    let is : held name ≡ Some there.0 = there.1 in
    cc

no_break_ready : (told : Option Held) (job name : List ℕ) (place : ℕ) (kind : InputKind) → RunReady told job
    → JobBreaks told job name place kind → ⊥
no_break_ready None job name place kind ready breaks = cc ready.tells
no_break_ready (Some held) job name place kind ready breaks =
    no_break held job ready.loaded name place kind ready.job_stands breaks

pub run_complete : {S O : Type 0} (held : S → Option Held) (read_faults : S → ℕ)
    (failed_name : S → Option (List ℕ)) (write_faults : S → ℕ) (faults : O → ℕ) (old new : S)
    (sink_old sink_new : O) (job : List ℕ) (result : Status)
    → CausedTo held read_faults failed_name write_faults faults old new sink_old sink_new (Run job) result
    → RunReady (held old) job
    → (Rose (read_faults old) (read_faults new) → ⊥) → (Rose (write_faults old) (write_faults new) → ⊥)
    → (Rose (faults sink_old) (faults sink_new) → ⊥)
    → IsAllDone result ⊎ (result ≡ statuses.NoMemory no_memory)
run_complete held read_faults failed_name write_faults faults old new a b job (statuses.ReadFault name) (reads, inl missing) ready quiet_reads writes sinks =
    absurd (stands_ready (held old) job name ready reads missing)
run_complete held read_faults failed_name write_faults faults old new a b job (statuses.ReadFault name) (reads, inr rose) ready quiet_reads writes sinks =
    absurd (quiet_reads rose.0)
run_complete held read_faults failed_name write_faults faults old new a b job (statuses.BadInput name place kind) breaks ready quiet_reads writes sinks =
    absurd (no_break_ready (held old) job name place kind ready breaks)
run_complete held read_faults failed_name write_faults faults old new a b job statuses.WriteFault (ends, inl failed) ready quiet_reads writes sinks = absurd (writes failed)
run_complete held read_faults failed_name write_faults faults old new a b job statuses.WriteFault (ends, inr failed) ready quiet_reads writes sinks = absurd (sinks failed)
run_complete held read_faults failed_name write_faults faults old new a b job (statuses.NoMemory memory) cause ready quiet_reads writes sinks = inr refl
run_complete held read_faults failed_name write_faults faults old new a b job statuses.Done cause ready quiet_reads writes sinks = inl tt
run_complete held read_faults failed_name write_faults faults old new a b job (statuses.LinesRefused n) cause ready quiet_reads writes sinks = inl tt
run_complete held read_faults failed_name write_faults faults old new a b job (statuses.NotLawful n reason) cause ready quiet_reads writes sinks = inl tt
run_complete held read_faults failed_name write_faults faults old new a b job (statuses.NotHitless n) cause ready quiet_reads writes sinks = inl tt
run_complete held read_faults failed_name write_faults faults old new a b job statuses.Usage cause ready quiet_reads writes sinks = absurd cause
