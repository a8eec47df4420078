-- How far a report has been gone through, and where it gets stuck (this project's own).
use Rattle.std.specs.Prelude.{◌≡◌, ℕ, ◌+◌, ◌≤◌, List, [], ◌∷◌, ◌++◌, length, drop}
use Rattle.lawful_runs.specs.declared.loaded.LoadedJob.{LoadedJob}
use Rattle.report_laws.specs.OfLineCuts.Cuts.{cut}
use Rattle.report_laws.specs.Stands.{Stand, start, Takes, IsPath}
use Rattle.report_laws.specs.OfWholePaths.FirstBadLines.{TakesNone, IsOpen}
use Rattle.tool_words.specs.declared.reason.Reason.{Reason}
use Rattle.report_check.specs.declared.events.cursor.Cursor.{Cursor}
use Rattle.report_check.specs.Reasons.{IsReason, IsWhy}

-- a place in bytes, with fewer lines before it than bytes
abbrev pub IsWithin : List ℕ → Cursor → Type 0
IsWithin bytes cursor = (cursor.at ≤ length bytes) × (cursor.line ≤ cursor.at)

-- the lines from there on
abbrev pub lines_left : List ℕ → Cursor → List (List ℕ)
lines_left bytes cursor = cut (drop cursor.at bytes)

-- the line that begins at a byte
pub record IsLineAt (bytes : List ℕ) (at : ℕ) (line : List ℕ) : Type 0 where
  pub first : cut (drop at bytes) ≡ line ∷ cut (drop (at + length line) bytes)
  pub within : at + length line ≤ length bytes
  pub some : 1 ≤ length line

abbrev pub IsNextLine : List ℕ → Cursor → List ℕ → Type 0
IsNextLine bytes cursor line = IsLineAt bytes cursor.at line

-- THE LINES BEFORE THE CURSOR are a path to that stand
pub record IsAt (loaded : LoadedJob) (bytes : List ℕ) (cursor : Cursor) (stand : Stand) : Type 0 where
  pub lines : List (List ℕ)
  pub gone : cut bytes ≡ lines ++ lines_left bytes cursor
  pub counted : length lines ≡ cursor.line
  pub path : IsPath loaded start lines stand

-- ---- where a report gets stuck
-- no line is left and the report isn't at its end, or the next line may not come
abbrev pub GetsStuck : LoadedJob → Stand → List (List ℕ) → Type 0
GetsStuck loaded stand [] = IsOpen stand
GetsStuck loaded stand (line ∷ lines) = TakesNone loaded stand line

-- THE REPORT IS STUCK at the cursor, for the cursor's reason
pub record IsStuck (loaded : LoadedJob) (bytes : List ℕ) (cursor : Cursor) : Type 0 where
  pub stand : Stand
  pub is_at : IsAt loaded bytes cursor stand
  pub stuck : GetsStuck loaded stand (lines_left bytes cursor)
  pub why : IsWhy loaded stand (lines_left bytes cursor) cursor.reason

-- no stand comes behind the next line, for this reason
abbrev pub IsRefused : LoadedJob → List ℕ → Cursor → Stand → Reason → Type 0
IsRefused loaded bytes cursor stand reason = (line : List ℕ) → IsNextLine bytes cursor line
    → TakesNone loaded stand line × IsReason loaded stand line reason

-- the reason of any next line but this text
abbrev pub IsReasonUnless : LoadedJob → List ℕ → Cursor → Stand → List ℕ → Reason → Type 0
IsReasonUnless loaded bytes cursor stand text reason = (line : List ℕ) → IsNextLine bytes cursor line
    → (line ≡ text → ⊥) → IsReason loaded stand line reason

-- the next line is this text, if it may come at all
abbrev pub MustBe : LoadedJob → List ℕ → Cursor → Stand → List ℕ → Type 0
MustBe loaded bytes cursor stand text = (line : List ℕ) (next : Stand)
    → IsNextLine bytes cursor line → Takes loaded stand line next → line ≡ text
