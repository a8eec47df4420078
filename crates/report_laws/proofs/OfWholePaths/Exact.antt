-- THE FIRST BAD LINE is the one at which a path is stuck.
use Rattle.std.proofs.Common.{◌≡◌, ◌∙◌, ℕ, suc, ◌+◌, ◌<◌, ◌≤◌, ◌^◌, List, [], ◌∷◌, ◌++◌, length, take, refl, sym, ap, subst, append_assoc, arith}
use Rattle.std.specs.Prelude.{drop}
use Rattle.std.proofs.lemmas.List.{length-append, take-append-drop, take-append-le}
use Rattle.filter_state.specs.declared.edit.Edit.{Edit}
use Rattle.run_report.specs.declared.record.RunRecord.{RunRecord}
use Rattle.run_report.specs.Reports.{report_lines}
use Rattle.lawful_runs.specs.declared.loaded.LoadedJob.{LoadedJob}
use Rattle.lawful_runs.specs.Given.{IsLoaded}
use Rattle.lawful_runs.specs.Lawful.{IsLawfulReport}
use Rattle.report_laws.specs.OfLineCuts.Cuts.{cut, joined}
use Rattle.report_laws.proofs.OfLineCuts.Cutting.{cut_joined}
use Rattle.report_laws.proofs.OfWholePaths.Cutting.{joined_cut}
use Rattle.report_laws.specs.Stands.{Stand, start, closing, IsPath, journal_length}
use Rattle.report_laws.specs.OfWholePaths.FirstBadLines.{TakesNone, IsOpen}
use Rattle.report_laws.specs.OfWholePaths.FirstBadLines.{Begins, IsFirstBadLine}
use Rattle.std.proofs.Math.Seq.{take-append_seam}
use Rattle.report_laws.proofs.OnePath.{one_path}
use Rattle.report_laws.proofs.ReportLines.{report_is_lines}
use Rattle.report_laws.proofs.Paths.{path_append, run_path}
use Rattle.report_laws.proofs.OfWholePaths.Reached.{run_of_path}
use Rattle.report_laws.proofs.OfWholePaths.Completing.{completes}

pub path_split : (loaded : LoadedJob) (stand end : Stand) (xs ys : List (List ℕ)) → IsPath loaded stand (xs ++ ys) end → (between : Stand) × IsPath loaded stand xs between × IsPath loaded between ys end
path_split loaded stand end [] ys path = (stand, refl, path)
path_split loaded stand end (x ∷ xs) ys (next, takes, rest) = let more = path_split loaded next end xs ys rest in (more.0, (next, takes, more.1), more.2)

-- ---- lines that begin a lawful report
pub begins_at : (loaded : LoadedJob) (stand : Stand) (lines : List (List ℕ)) → IsLoaded loaded → IsPath loaded start lines stand → Begins loaded lines
begins_at loaded stand lines is path =
    let on = completes loaded stand lines is path in
    let run = run_of_path loaded on.run on.journal (lines ++ on.more) (path_append loaded start stand (closing on.run on.journal []) lines on.more path on.path) in
    record { run = on.run; more = on.more; lawful = (on.journal, run.0); begin = sym run.1 }

-- and no others
pub stand_of : (loaded : LoadedJob) (lines : List (List ℕ)) → Begins loaded lines → (stand : Stand) × IsPath loaded start lines stand
stand_of loaded lines begins =
    let path = run_path loaded begins.run begins.lawful.0 begins.lawful.1 in
    let split = path_split loaded start (closing begins.run begins.lawful.0 []) lines begins.more (subst (λ (ls : List (List ℕ)). IsPath loaded start ls (closing begins.run begins.lawful.0 [])) begins.begin path) in
    (split.0, split.1)

stuck : (loaded : LoadedJob) (stand : Stand) (lines : List (List ℕ)) (line : List ℕ) → IsLoaded loaded → IsPath loaded start lines stand → journal_length stand < 2 ^ 64 → TakesNone loaded stand line
    → Begins loaded (lines ++ (line ∷ [])) → ⊥
stuck loaded stand lines line is path short none begins =
    let it = stand_of loaded (lines ++ (line ∷ [])) begins in
    let split = path_split loaded start it.0 lines (line ∷ []) it.1 in
    let same : split.0 ≡ stand = sym (one_path loaded start stand split.0 lines is short path split.1) in
    let last : IsPath loaded stand (line ∷ []) it.0 = subst (λ (s : Stand). IsPath loaded s (line ∷ []) it.0) same split.2 in
    none last.0 last.1

fronts_begin : (loaded : LoadedJob) (stand : Stand) (lines : List (List ℕ)) (k : ℕ) → IsLoaded loaded → IsPath loaded start lines stand → Begins loaded (take k lines)
fronts_begin loaded stand lines k is path =
    let split = path_split loaded start stand (take k lines) (drop k lines) (subst (λ (ls : List (List ℕ)). IsPath loaded start ls stand) (sym (take-append-drop k lines)) path) in
    begins_at loaded split.0 (take k lines) is split.1

take_within : {X : Type 0} (xs ys : List X) (k : ℕ) → k ≤ length xs → take k (xs ++ ys) ≡ take k xs
take_within xs ys k within = take-append-le k xs ys within

-- a line that may not come
pub bad_line : (loaded : LoadedJob) (bytes : List ℕ) (stand : Stand) (lines rest : List (List ℕ)) (line : List ℕ) → IsLoaded loaded → cut bytes ≡ lines ++ (line ∷ rest) → IsPath loaded start lines stand
    → journal_length stand < 2 ^ 64 → TakesNone loaded stand line → IsFirstBadLine loaded bytes (length lines + 1)
bad_line loaded bytes stand lines rest line is cut_is path short none =
    let sum = length-append lines (line ∷ rest) in
    let count : length (cut bytes) ≡ length lines + suc (length rest) = ap length cut_is ∙ sum in
    let one : length (lines ++ (line ∷ [])) ≡ length lines + 1 = length-append lines (line ∷ []) in
    let taken : take (length lines + 1) (cut bytes) ≡ lines ++ (line ∷ []) =
    ap (take (length lines + 1)) (cut_is ∙ sym (append_assoc lines (line ∷ []) rest)) ∙ ap (λ (k : ℕ). take k ((lines ++ (line ∷ [])) ++ rest)) (sym one) ∙ take-append_seam (lines ++ (line ∷ [])) rest in
    record {
      first = omega arith;
      within = omega (arith, count);
      before = λ k less.
          subst (Begins loaded) (sym (ap (take k) cut_is ∙ take_within lines (line ∷ rest) k (omega (arith, less)))) (fronts_begin loaded stand lines k is path);
      bad = λ within begins. stuck loaded stand lines line is path short none (subst (Begins loaded) taken begins);
      short = λ past. absurd (omega (arith, past, count));
    }

-- bytes that end too early. A report's lines are cut as they were put together.
pub cut_short : (loaded : LoadedJob) (bytes : List ℕ) (stand : Stand) → IsLoaded loaded → IsPath loaded start (cut bytes) stand → journal_length stand < 2 ^ 64
    → IsOpen stand → IsFirstBadLine loaded bytes (length (cut bytes) + 1)
cut_short loaded bytes stand is path short unended = record {
  first = omega arith;
  within = omega arith;
  before = λ k less. fronts_begin loaded stand (cut bytes) k is path;
  bad = λ within. absurd (omega (arith, within));
  short = λ past lawful.
      let run : RunRecord = lawful.0 in
      let lines : cut bytes ≡ report_lines run = ap cut lawful.2 ∙ cut_joined (report_lines run) (report_is_lines run) in
      let other = run_path loaded run lawful.1.0 lawful.1.1 in
      unended run lawful.1.0 (one_path loaded start stand (closing run lawful.1.0 []) (cut bytes) is short path (subst (λ (ls : List (List ℕ)). IsPath loaded start ls (closing run lawful.1.0 [])) (sym lines) other));
}

-- bytes that are a lawful report
pub whole_report : (loaded : LoadedJob) (bytes : List ℕ) (run : RunRecord) (journal : List Edit) → IsPath loaded start (cut bytes) (closing run journal []) → IsLawfulReport loaded bytes
whole_report loaded bytes run journal path =
    let it = run_of_path loaded run journal (cut bytes) path in
    (run, (journal, it.0), sym (joined_cut bytes) ∙ ap joined it.1)
