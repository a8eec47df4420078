-- A report is that of one run, and so it has one trace.
use Rattle.std.proofs.Common.{◌≡◌, ◌∙◌, ℕ, List, [], sym, ap, subst}
use Rattle.filter_state.specs.declared.edit.Edit.{Edit}
use Rattle.run_report.specs.declared.record.RunRecord.{RunRecord}
use Rattle.run_report.specs.Reports.{report_lines, report_text}
use Rattle.lawful_runs.specs.declared.loaded.LoadedJob.{LoadedJob}
use Rattle.lawful_runs.specs.Given.{IsLoaded}
use Rattle.lawful_runs.specs.Lawful.{IsRunWith}
use Rattle.report_check.specs.Passed.{cut}
use Rattle.report_check.specs.Passed.{start, closing, IsPath}
use Rattle.report_check.proofs.Passed.{cut_joined}
use Rattle.report_check.proofs.Passed.{report_is_lines}
use Rattle.report_check.proofs.Passed.{one_path}
use Rattle.report_check.proofs.Passed.{run_path}
use Rattle.report_check.proofs.Passed.{journal_short}
use Rattle.report_trace.specs.Traced.{entries_in, trace_text, IsTraceOf}

-- the lines that a report is cut into
pub lines_cut : (report : List ℕ) (run : RunRecord) → report ≡ report_text run → cut report ≡ report_lines run
lines_cut report run is = ap cut is ∙ cut_joined (report_lines run) (report_is_lines run)

same_run : (one other : RunRecord) (journal edits : List Edit) → closing one journal [] ≡ closing other edits [] → one ≡ other
same_run one other journal edits is = cc is

same_journal : (one other : RunRecord) (journal edits : List Edit) → closing one journal [] ≡ closing other edits [] → journal ≡ edits
same_journal one other journal edits is = cc is

-- A REPORT'S RUN AND ITS JOURNAL
pub one_run : (loaded : LoadedJob) (report : List ℕ) (one other : RunRecord) (journal edits : List Edit) → IsLoaded loaded → IsRunWith loaded one journal → report ≡ report_text one → IsRunWith loaded other edits → report ≡ report_text other
    → (one ≡ other) × (journal ≡ edits)
one_run loaded report one other journal edits is first reported second again =
    let lines : report_lines other ≡ report_lines one = sym (lines_cut report other again) ∙ lines_cut report one reported in
    let path : IsPath loaded start (report_lines one) (closing other edits []) = subst (λ (ls : List (List ℕ)). IsPath loaded start ls (closing other edits [])) lines (run_path loaded other edits second) in
    let same : closing one journal [] ≡ closing other edits [] = one_path loaded start (closing one journal []) (closing other edits []) (report_lines one) is (journal_short loaded one journal is first) (run_path loaded one journal first) path in
    (same_run one other journal edits same, same_journal one other journal edits same)

-- the text of its trace
pub text_of_run : (loaded : LoadedJob) (report text : List ℕ) (run : RunRecord) (journal : List Edit) → IsLoaded loaded → IsRunWith loaded run journal → report ≡ report_text run → IsTraceOf loaded report text → text ≡ trace_text loaded run (entries_in run journal)
text_of_run loaded report text run journal is lawful reported it =
    let same = one_run loaded report it.run run it.journal journal is it.lawful it.reported lawful reported in
    it.text_is ∙ ap (λ (r : RunRecord). trace_text loaded r (entries_in r it.journal)) same.0 ∙ ap (λ (es : List Edit). trace_text loaded run (entries_in run es)) same.1

pub one_text : (loaded : LoadedJob) (report one other : List ℕ) → IsLoaded loaded → IsTraceOf loaded report one → IsTraceOf loaded report other → one ≡ other
one_text loaded report one other is first second =
    text_of_run loaded report one second.run second.journal is second.lawful second.reported first ∙ sym second.text_is
