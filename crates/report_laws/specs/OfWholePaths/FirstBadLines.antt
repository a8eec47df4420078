-- The first line of bytes with which no lawful report goes on (this project's own).
use Rattle.std.specs.Prelude.{◌≡◌, ℕ, ◌+◌, ◌≤◌, ◌<◌, List, [], ◌++◌, length, take}
use Rattle.filter_state.specs.declared.edit.Edit.{Edit}
use Rattle.run_report.specs.declared.record.RunRecord.{RunRecord}
use Rattle.run_report.specs.Reports.{report_lines}
use Rattle.lawful_runs.specs.declared.loaded.LoadedJob.{LoadedJob}
use Rattle.lawful_runs.specs.Lawful.{IsLawfulRun, IsLawfulReport}
use Rattle.report_laws.specs.OfLineCuts.Cuts.{cut}
use Rattle.report_laws.specs.Stands.{Stand, closing, Takes}

-- these are the first lines of some lawful report, or all of them
pub record Begins (loaded : LoadedJob) (lines : List (List ℕ)) : Type 0 where
  pub run : RunRecord
  pub more : List (List ℕ)
  pub lawful : IsLawfulRun loaded run
  pub begin : report_lines run ≡ lines ++ more

-- THE FIRST BAD LINE: lawful reports begin with the lines before it, and none with it as well. One past the
-- last line it says that the report is cut: its lines begin a lawful report and aren't all of one.
pub record IsFirstBadLine (loaded : LoadedJob) (bytes : List ℕ) (at : ℕ) : Type 0 where
  pub first : 1 ≤ at
  pub within : at ≤ length (cut bytes) + 1
  pub before : (k : ℕ) → k < at → Begins loaded (take k (cut bytes))
  pub bad : at ≤ length (cut bytes) → Begins loaded (take at (cut bytes)) → ⊥
  pub short : length (cut bytes) < at → IsLawfulReport loaded bytes → ⊥

-- ---- stands at which a path gets stuck
-- no stand comes behind this line
abbrev pub TakesNone : LoadedJob → Stand → List ℕ → Type 0
TakesNone loaded stand line = (next : Stand) → Takes loaded stand line next → ⊥

-- the report is not at its end
abbrev pub IsOpen : Stand → Type 0
IsOpen stand = (run : RunRecord) (journal : List Edit) → stand ≡ closing run journal [] → ⊥
