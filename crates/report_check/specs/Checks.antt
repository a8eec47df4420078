-- What is answered of a report (this project's own).
use Rattle.std.specs.Prelude.{◌≡◌, ℕ, List, ◌∷◌, codes}
use Rattle.lawful_runs.specs.declared.loaded.LoadedJob.{LoadedJob}
use Rattle.lawful_runs.specs.Lawful.{IsLawfulReport}
use Rattle.report_laws.specs.OfLineCuts.Cuts.{cut}
use Rattle.report_laws.specs.OfWholePaths.FirstBadLines.{IsFirstBadLine}
use Rattle.report_check.specs.declared.check.Check.{Check}
use Rattle.report_check.specs.declared.check.Check.TheVariants as checks
use Rattle.report_check.specs.Reasons.{IsReasonAt}

-- THE ANSWER: the bytes are the report of a lawful run of the job, or this is the first line with which none
-- goes on, and why
abbrev pub IsCheckOf : LoadedJob → List ℕ → Check → Type 0
IsCheckOf loaded bytes checks.Lawful = IsLawfulReport loaded bytes
IsCheckOf loaded bytes (checks.Unlawful line reason) =
    IsFirstBadLine loaded bytes line × IsReasonAt loaded bytes line reason

-- the first line isn't the title, or there is none
abbrev pub IsUntitled : List ℕ → Type 0
IsUntitled bytes = (lines : List (List ℕ)) → cut bytes ≡ codes "clsact report 1\n" ∷ lines → ⊥
