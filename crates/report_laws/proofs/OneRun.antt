-- THE REPORT OF A LAWFUL RUN is that of no other.
use Rattle.std.proofs.Common.{◌≡◌, ◌∙◌, ℕ, List, [], sym, ap, subst}
use Rattle.filter_state.specs.declared.edit.Edit.{Edit}
use Rattle.run_report.specs.declared.record.RunRecord.{RunRecord}
use Rattle.run_report.specs.Reports.{report_lines, report_text}
use Rattle.lawful_runs.specs.declared.loaded.LoadedJob.{LoadedJob}
use Rattle.lawful_runs.specs.Given.{IsLoaded}
use Rattle.lawful_runs.specs.Lawful.{IsLawfulRun}
use Rattle.report_laws.specs.OfLineCuts.Cuts.{cut}
use Rattle.report_laws.proofs.OfLineCuts.Cutting.{cut_joined}
use Rattle.report_laws.specs.Stands.{Stand, start, closing, IsPath}
use Rattle.report_laws.proofs.Paths.{run_path}
use Rattle.report_laws.proofs.ReportLines.{report_is_lines}
use Rattle.report_laws.proofs.ShortJournals.{journal_short}
use Rattle.report_laws.proofs.OnePath.{one_path}

same_lines : (one other : RunRecord) → report_text one ≡ report_text other → report_lines one ≡ report_lines other
same_lines one other same = sym (cut_joined (report_lines one) (report_is_lines one)) ∙ ap cut same ∙ cut_joined (report_lines other) (report_is_lines other)

same_run : (one other : RunRecord) (journal others : List Edit) → ◌≡◌ {A = Stand} (closing one journal []) (closing other others []) → one ≡ other
same_run one other journal others is = cc is

pub one_run : (loaded : LoadedJob) (one other : RunRecord) → IsLoaded loaded → IsLawfulRun loaded one → IsLawfulRun loaded other → report_text one ≡ report_text other → one ≡ other
one_run loaded one other is (journal, ran) (others, also) same =
    let path : IsPath loaded start (report_lines one) (closing other others []) =
    subst (λ (lines : List (List ℕ)). IsPath loaded start lines (closing other others [])) (sym (same_lines one other same)) (run_path loaded other others also) in
    same_run one other journal others
    (one_path loaded start (closing one journal []) (closing other others []) (report_lines one) is (journal_short loaded one journal is ran) (run_path loaded one journal ran) path)
