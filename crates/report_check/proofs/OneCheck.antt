-- Bytes have at most one answer.
use Rattle.std.proofs.Common.{◌≡◌, ◌∙◌, ◌⊎◌, inl, inr, ℕ, ◌<◌, ◌≤◌, List, length, take, drop, refl, sym, ap, subst, arith}
use Rattle.std.proofs.lemmas.List.{take-append-drop}
use Rattle.run_report.specs.Reports.{report_lines}
use Rattle.lawful_runs.specs.declared.loaded.LoadedJob.{LoadedJob}
use Rattle.lawful_runs.specs.Given.{IsLoaded}
use Rattle.lawful_runs.specs.Lawful.{IsLawfulReport}
use Rattle.report_laws.specs.OfLineCuts.Cuts.{cut}
use Rattle.report_laws.proofs.OfLineCuts.Cutting.{cut_joined}
use Rattle.report_laws.specs.OfWholePaths.FirstBadLines.{Begins, IsFirstBadLine}
use Rattle.report_laws.proofs.ReportLines.{report_is_lines}
use Rattle.report_check.specs.declared.check.Check.{Check}
use Rattle.report_check.specs.declared.check.Check.TheVariants as checks
use Rattle.tool_words.specs.declared.reason.Reason.{Reason}
use Rattle.report_check.specs.Checks.{IsCheckOf}
use Rattle.report_check.specs.Reasons.{IsReasonAt}
use Rattle.report_check.proofs.OneReason.{one_reason}

module _ (loaded : LoadedJob) (bytes : List ℕ) where
  within_or_past : (at : ℕ) → (at ≤ length (cut bytes)) ⊎ (length (cut bytes) < at)
  within_or_past at = grind arith

  -- any first lines of a lawful report begin one
  lines_begin : (at : ℕ) → IsLawfulReport loaded bytes → Begins loaded (take at (cut bytes))
  lines_begin at lawful =
      let run = lawful.0 in
      let lines : cut bytes ≡ report_lines run = ap cut lawful.2 ∙ cut_joined (report_lines run) (report_is_lines run) in
      record {
        run = run;
        more = drop at (cut bytes);
        lawful = lawful.1;
        begin = sym lines ∙ sym (take-append-drop at (cut bytes));
      }

  not_both : (at : ℕ) → IsLawfulReport loaded bytes → IsFirstBadLine loaded bytes at → ⊥
  not_both at lawful first = by_place (within_or_past at)
    where
      by_place : (at ≤ length (cut bytes)) ⊎ (length (cut bytes) < at) → ⊥
      by_place (inl within) = first.bad within (lines_begin at lawful)
      by_place (inr past) = first.short past lawful

  not_before : (at later : ℕ) → IsFirstBadLine loaded bytes at → IsFirstBadLine loaded bytes later → at < later → ⊥
  not_before at later first second less =
      let end = second.within in
      first.bad (omega (arith, end, less)) (second.before at less)

  order : (at later : ℕ) → (at ≡ later) ⊎ (at < later) ⊎ (later < at)
  order at later = grind arith

  one_line : (at later : ℕ) → IsFirstBadLine loaded bytes at → IsFirstBadLine loaded bytes later → at ≡ later
  one_line at later first second = by_order (order at later)
    where
      by_order : (at ≡ later) ⊎ (at < later) ⊎ (later < at) → at ≡ later
      by_order (inl same) = same
      by_order (inr (inl less)) = absurd (not_before at later first second less)
      by_order (inr (inr more)) = absurd (not_before later at second first more)

  pub one_answer : (one other : Check) → IsLoaded loaded → IsCheckOf loaded bytes one → IsCheckOf loaded bytes other → one ≡ other
  one_answer checks.Lawful checks.Lawful is first second = refl
  one_answer checks.Lawful (checks.Unlawful line reason) is lawful bad = absurd (not_both line lawful bad.0)
  one_answer (checks.Unlawful line reason) checks.Lawful is bad lawful = absurd (not_both line lawful bad.0)
  one_answer (checks.Unlawful line reason) (checks.Unlawful other why) is first second =
      let lines = one_line line other first.0 second.0 in
      let reasons = one_reason loaded bytes line reason why is first.1 (subst (λ (n : ℕ). IsReasonAt loaded bytes n why) (sym lines) second.1) in
      ap (λ (n : ℕ). checks.Unlawful n reason) lines ∙ ap (λ (r : Reason). checks.Unlawful other r) reasons
