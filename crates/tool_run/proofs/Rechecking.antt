-- The answer of a recheck that is due is one, and comes where its input is ready. A trace of the report has the
-- same answer.
use Rattle.std.proofs.Common.{◌≡◌, ◌⊎◌, inl, inr, ◌∙◌, ℕ, List, Option, Some, None, Ok, Err, refl, sym, ap, subst}
use Rattle.std.specs.Prelude.{IsSomeAnd}
use Rattle.tc_base.specs.Outside.{Held, Rose}
use Rattle.lawful_runs.specs.declared.loaded.LoadedJob.{LoadedJob}
use Rattle.tool_words.specs.declared.status.InputKind.{InputKind}
use Rattle.tool_words.specs.declared.status.Status.{Status}
use Rattle.tool_words.specs.declared.status.Status.TheVariants as statuses
use Rattle.tool_words.specs.Command.{Recheck, TraceReport}
use Rattle.tool_words.specs.Ends.{IsAllDone}
use Rattle.job_files.specs.OfInputs.Holdings.{Holds}
use Rattle.job_files.proofs.OfInputs.Readings.{same_bytes}
use Rattle.job_files.specs.Holdings.{HasJob}
use Rattle.job_files.specs.Faults.{JobBreaks}
use Rattle.job_files.proofs.Exact.{stands}
use Rattle.job_files.proofs.Numbers.{job_is_loaded}
use Rattle.report_trace.specs.Passed.{IsCheckOf}
use Rattle.report_trace.proofs.Passed.{one_answer as one_check}
use Rattle.tool_run.specs.Rechecks.{JudgmentEnds, status_of_check, RecheckReads}
use Rattle.tool_run.specs.Causes.{AllowedTo, CausedTo}
use Rattle.tool_run.specs.Ready.{RecheckReady}
use Rattle.tool_run.proofs.JobFaults.{IsJobBreak, one_job, no_break, one_break}
use Rattle.tc_base.specs.Memory.{no_memory}

-- what is due: what the report is judged to be, or the first fault of the job's files
abbrev pub RecheckDue : Option Held → List ℕ → List ℕ → Status → Type 0
RecheckDue told job report status = JudgmentEnds told job report status ⊎ IsJobBreak told job status

pub recheck_due : (told : Option Held) (job report : List ℕ) (status : Status)
    → AllowedTo told (Recheck job report) status → RecheckDue told job report status
recheck_due told job report statuses.Done due = inl due
recheck_due told job report (statuses.LinesRefused n) due = inl due
recheck_due told job report (statuses.BadInput name place kind) due = inr (name, place, kind, due, refl)
recheck_due told job report (statuses.ReadFault name) due = absurd due
recheck_due told job report (statuses.NotLawful line reason) due = inl due
recheck_due told job report (statuses.NotHitless n) due = inl due
recheck_due told job report statuses.Usage due = absurd due
recheck_due told job report statuses.WriteFault due = absurd due
recheck_due told job report (statuses.NoMemory memory) due = absurd due

module _ (held : Held) (job report : List ℕ) where
  abbrev told : Option Held
  told = Some held

  one_judged : (x y : Status) → JudgmentEnds told job report x → JudgmentEnds told job report y → x ≡ y
  one_judged x y h k =
      let first = h.1 in
      let second = k.1 in
      let loaded = one_job held job first.loaded second.loaded first.job_held second.job_held in
      let bytes = same_bytes held report first.bytes second.bytes first.report_held second.report_held in
      let is : IsCheckOf second.loaded second.bytes h.0 =
      subst (λ (bs : List ℕ). IsCheckOf second.loaded bs h.0) bytes
      (subst (λ (l : LoadedJob). IsCheckOf l first.bytes h.0) loaded first.is) in
      let can = job_is_loaded told job second.loaded second.job_held in
      h.2 ∙ ap status_of_check (one_check second.loaded second.bytes h.0 k.0 can is second.is) ∙ sym k.2

  pub one_recheck : (x y : Status) → RecheckDue told job report x → RecheckDue told job report y → x ≡ y
  one_recheck x y (inl h) (inl k) = one_judged x y h k
  one_recheck x y (inl h) (inr (name, place, kind, breaks, is)) =
      absurd (no_break held job h.1.loaded name place kind h.1.job_held breaks)
  one_recheck x y (inr (name, place, kind, breaks, is)) (inl k) =
      absurd (no_break held job k.1.loaded name place kind k.1.job_held breaks)
  one_recheck x y (inr h) (inr k) = one_break held job x y h k

  -- ---- what is read stands
  pub read_stands : (name : List ℕ) (loaded : LoadedJob) (bytes : List ℕ) → HasJob told job loaded
      → Holds told report bytes → RecheckReads told job report name → (found : List ℕ) × Holds told name found
  read_stands name loaded bytes has there (inl reads) = stands held job name (Ok loaded) has reads
  read_stands name loaded bytes has there (inr last) =
      (bytes, subst (λ (n : List ℕ). Holds told n bytes) (sym last.0) there)

  pub rechecked_stands : (name : List ℕ) (status : Status) → RecheckDue told job report status
      → RecheckReads told job report name → (found : List ℕ) × Holds told name found
  rechecked_stands name status (inl h) reads =
      read_stands name h.1.loaded h.1.bytes h.1.job_held h.1.report_held reads
  rechecked_stands name status (inr (file, place, kind, breaks, is)) (inl reads) =
      stands held job name (Err (statuses.BadInput file place kind)) breaks reads
  rechecked_stands name status (inr (file, place, kind, breaks, is)) (inr last) =
      absurd (no_break held job last.1.0 file place kind last.1.1 breaks)

-- ---- where all input is ready and no count rose
stands_ready : (told : Option Held) (job report name : List ℕ) → RecheckReady told job report
    → RecheckReads told job report name → IsSomeAnd told (λ h. h name ≡ None) → ⊥
stands_ready None job report name ready reads missing = absurd missing
stands_ready (Some held) job report name ready reads missing =
    let there = read_stands held job report name ready.loaded ready.bytes ready.job_stands ready.report_stands reads in
    let is : held name ≡ Some there.0 = there.1 in
    cc

no_break_ready : (told : Option Held) (job report name : List ℕ) (place : ℕ) (kind : InputKind)
    → RecheckReady told job report → JobBreaks told job name place kind → ⊥
no_break_ready None job report name place kind ready breaks = cc ready.tells
no_break_ready (Some held) job report name place kind ready breaks =
    no_break held job ready.loaded name place kind ready.job_stands breaks

pub recheck_complete : {S O : Type 0} (held : S → Option Held) (read_faults : S → ℕ)
    (failed_name : S → Option (List ℕ)) (write_faults : S → ℕ) (faults : O → ℕ) (old new : S)
    (sink_old sink_new : O) (job report : List ℕ) (result : Status)
    → CausedTo held read_faults failed_name write_faults faults old new sink_old sink_new (Recheck job report) result
    → RecheckReady (held old) job report
    → (Rose (read_faults old) (read_faults new) → ⊥) → (Rose (write_faults old) (write_faults new) → ⊥)
    → (Rose (faults sink_old) (faults sink_new) → ⊥)
    → IsAllDone result ⊎ (result ≡ statuses.NoMemory no_memory)
recheck_complete held read_faults failed_name write_faults faults old new a b job report (statuses.ReadFault name) (reads, inl missing) ready quiet_reads writes sinks =
    absurd (stands_ready (held old) job report name ready reads missing)
recheck_complete held read_faults failed_name write_faults faults old new a b job report (statuses.ReadFault name) (reads, inr rose) ready quiet_reads writes sinks =
    absurd (quiet_reads rose.0)
recheck_complete held read_faults failed_name write_faults faults old new a b job report (statuses.BadInput name place kind) breaks ready quiet_reads writes sinks =
    absurd (no_break_ready (held old) job report name place kind ready breaks)
recheck_complete held read_faults failed_name write_faults faults old new a b job report statuses.WriteFault (ends, inl failed) ready quiet_reads writes sinks = absurd (writes failed)
recheck_complete held read_faults failed_name write_faults faults old new a b job report statuses.WriteFault (ends, inr failed) ready quiet_reads writes sinks = absurd (sinks failed)
recheck_complete held read_faults failed_name write_faults faults old new a b job report (statuses.NoMemory memory) cause ready quiet_reads writes sinks = inr refl
recheck_complete held read_faults failed_name write_faults faults old new a b job report statuses.Done cause ready quiet_reads writes sinks = inl tt
recheck_complete held read_faults failed_name write_faults faults old new a b job report (statuses.LinesRefused n) cause ready quiet_reads writes sinks = inl tt
recheck_complete held read_faults failed_name write_faults faults old new a b job report (statuses.NotLawful n reason) cause ready quiet_reads writes sinks = inl tt
recheck_complete held read_faults failed_name write_faults faults old new a b job report (statuses.NotHitless n) cause ready quiet_reads writes sinks = inl tt
recheck_complete held read_faults failed_name write_faults faults old new a b job report statuses.Usage cause ready quiet_reads writes sinks = absurd cause

-- ---- a trace of the report is answered as a recheck of it
pub traced_as_rechecked : (told : Option Held) (job report : List ℕ) (status : Status)
    → AllowedTo told (TraceReport job report) status → AllowedTo told (Recheck job report) status
traced_as_rechecked _ job report statuses.Done due = due
traced_as_rechecked _ job report (statuses.LinesRefused n) due = due
traced_as_rechecked _ job report (statuses.BadInput name place kind) due = due
traced_as_rechecked _ job report (statuses.ReadFault name) due = due
traced_as_rechecked _ job report (statuses.NotLawful line reason) due = due
traced_as_rechecked _ job report (statuses.NotHitless n) due = due
traced_as_rechecked _ job report statuses.Usage due = due
traced_as_rechecked _ job report statuses.WriteFault due = due
traced_as_rechecked _ job report (statuses.NoMemory memory) due = due

pub traced_complete : {S O : Type 0} (held : S → Option Held) (read_faults : S → ℕ)
    (failed_name : S → Option (List ℕ)) (write_faults : S → ℕ) (faults : O → ℕ) (old new : S)
    (sink_old sink_new : O) (job report : List ℕ) (result : Status)
    → CausedTo held read_faults failed_name write_faults faults old new sink_old sink_new (TraceReport job report)
    result
    → RecheckReady (held old) job report
    → (Rose (read_faults old) (read_faults new) → ⊥) → (Rose (write_faults old) (write_faults new) → ⊥)
    → (Rose (faults sink_old) (faults sink_new) → ⊥)
    → IsAllDone result ⊎ (result ≡ statuses.NoMemory no_memory)
traced_complete {S} {O} held read_faults failed_name write_faults faults old new a b job report result cause =
    recheck_complete held read_faults failed_name write_faults faults old new a b job report result
    (as_rechecked result cause)
  where
    as_rechecked : (status : Status)
        → CausedTo held read_faults failed_name write_faults faults old new a b (TraceReport job report) status
        → CausedTo held read_faults failed_name write_faults faults old new a b (Recheck job report) status
    as_rechecked statuses.Done cause = cause
    as_rechecked (statuses.LinesRefused n) cause = cause
    as_rechecked (statuses.BadInput name place kind) cause = cause
    as_rechecked (statuses.ReadFault name) cause = cause
    as_rechecked (statuses.NotLawful line reason) cause = cause
    as_rechecked (statuses.NotHitless n) cause = cause
    as_rechecked statuses.Usage cause = cause
    as_rechecked statuses.WriteFault cause = cause
    as_rechecked (statuses.NoMemory memory) cause = cause
