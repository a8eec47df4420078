-- What is told of a report.
use Rattle.std.proofs.Common.{◌≡◌, ◌∙◌, ℕ, List, Option, Ok, Err, refl, sym, ap, subst}
use Rattle.std.specs.Prelude.{Result, OnOk}
use Rattle.tc_base.specs.Outside.{Held, Appended}
use Rattle.lawful_runs.specs.declared.loaded.LoadedJob.{LoadedJob}
use Rattle.tool_words.specs.declared.reason.Reason.{Reason}
use Rattle.job_files.specs.Holdings.{HasJob}
use Rattle.job_files.specs.OfInputs.Holdings.{Holds}
use Rattle.report_trace.specs.Passed.{Check, Replay, Replayed, IsCheckOf, IsReplayedOf}
use Rattle.report_trace.specs.Passed.checks
use Rattle.report_trace.specs.Passed.replayed
use Rattle.report_trace.specs.Traced.{IsTraceOf, entries_in, trace_text}
use Rattle.tool_run.specs.Rechecks.{Judges, check_text}
use Rattle.tool_run.specs.ReportTraces.{IsToldOf, GivesReportTrace, check_of}

-- a report with its journal is judged to be what it is
replayed_is : (loaded : LoadedJob) (bytes : List ℕ) (it : Replayed) → IsReplayedOf loaded bytes it
    → IsCheckOf loaded bytes (check_of it)
replayed_is loaded bytes (replayed.Lawful kept) is = (is.run, (kept.journal.items, is.lawful), is.reported)
replayed_is loaded bytes (replayed.Unlawful line reason) is = is

-- and something is told of it
some_told : (loaded : LoadedJob) (bytes : List ℕ) (it : Replayed) → IsReplayedOf loaded bytes it
    → (text : List ℕ) × IsToldOf loaded bytes (check_of it) text
some_told loaded bytes (replayed.Lawful kept) is = (
  trace_text loaded is.run (entries_in is.run kept.journal.items),
  record {
    run = is.run;
    journal = kept.journal.items;
    lawful = is.lawful;
    reported = is.reported;
    text_is = refl;
  },
)
some_told loaded bytes (replayed.Unlawful line reason) is = (check_text (checks.Unlawful line reason), refl)

-- what is held gives what is told
pub report_gives : (told : Option Held) (job report : List ℕ) (loaded : LoadedJob) (bytes : List ℕ)
    (it : Replayed) → HasJob told job loaded → Holds told report bytes → IsReplayedOf loaded bytes it
    → (text : List ℕ) × IsToldOf loaded bytes (check_of it) text
    × GivesReportTrace told job report (check_of it) text
report_gives told job report loaded bytes it has holds is =
    let judges : Judges told job report (check_of it) =
    record {
      loaded = loaded;
      bytes = bytes;
      job_held = has;
      report_held = holds;
      is = replayed_is loaded bytes it is;
    } in
    let text = some_told loaded bytes it is in
    (text.0, text.1, record { judges = judges; tells = text.1 })

-- ---- what is written is what is told
-- of a lawful report, whose journal is kept, the trace
pub kept_of : (loaded : LoadedJob) (bytes other : List ℕ) (it : Replayed) (kept : Replay)
    → it ≡ replayed.Lawful kept → other ≡ bytes → IsReplayedOf loaded bytes it
    → IsReplayedOf loaded other (replayed.Lawful kept)
kept_of loaded bytes other it kept is same all =
    subst (λ (given : List ℕ). IsReplayedOf loaded given (replayed.Lawful kept)) (sym same)
    (subst (λ (r : Replayed). IsReplayedOf loaded bytes r) is all)

pub told_traced : (loaded : LoadedJob) (bytes other : List ℕ) (it : Replayed) (kept : Replay)
    → it ≡ replayed.Lawful kept → other ≡ bytes → (text : List ℕ) → IsToldOf loaded bytes (check_of it) text
    → IsTraceOf loaded other text
told_traced loaded bytes other it kept is same text told =
    subst (λ (given : List ℕ). IsTraceOf loaded given text) (sym same)
    (subst (λ (r : Replayed). IsToldOf loaded bytes (check_of r) text) is told)

pub trace_written : {T E : Type 0} (result : Result T E) (a b : Option (List ℕ)) (loaded : LoadedJob)
    (bytes other : List ℕ) (it : Replayed) (kept : Replay) → it ≡ replayed.Lawful kept → other ≡ bytes
    → OnOk result ((text : List ℕ) → IsTraceOf loaded other text → Appended a b text)
    → OnOk result ((text : List ℕ) → IsToldOf loaded bytes (check_of it) text → Appended a b text)
trace_written (Ok done) a b loaded bytes other it kept is same all =
    λ text told. all text (told_traced loaded bytes other it kept is same text told)
trace_written (Err fault) a b loaded bytes other it kept is same all = tt

-- of another the line that judges it
pub told_line : (loaded : LoadedJob) (bytes : List ℕ) (it : Replayed) (line : ℕ) (reason : Reason)
    (check : Check) → it ≡ replayed.Unlawful line reason → check ≡ check_of it → (text : List ℕ)
    → IsToldOf loaded bytes (check_of it) text → check_text check ≡ text
told_line loaded bytes it line reason check is judged text told =
    let unlawful : text ≡ check_text (checks.Unlawful line reason) =
    subst (λ (r : Replayed). IsToldOf loaded bytes (check_of r) text) is told in
    ap check_text judged ∙ ap (λ (r : Replayed). check_text (check_of r)) is ∙ sym unlawful

pub line_written : {T E : Type 0} (result : Result T E) (a b : Option (List ℕ)) (loaded : LoadedJob)
    (bytes : List ℕ) (it : Replayed) (line : ℕ) (reason : Reason) (check : Check)
    → it ≡ replayed.Unlawful line reason
    → check ≡ check_of it → OnOk result (Appended a b (check_text check))
    → OnOk result ((text : List ℕ) → IsToldOf loaded bytes (check_of it) text → Appended a b text)
line_written (Ok done) a b loaded bytes it line reason check is judged all =
    λ text told. subst (λ (t : List ℕ). Appended a b t)
    (told_line loaded bytes it line reason check is judged text told) all
line_written (Err fault) a b loaded bytes it line reason check is judged all = tt
