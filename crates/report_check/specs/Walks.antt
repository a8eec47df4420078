-- A packet's walk, by what its line shows (this project's own).
use Rattle.std.specs.Prelude.{◌≡◌, ◌⊎◌, ℕ, ◌≤◌, ◌<◌, List, [], ◌∷◌, length, Option, Some}
use Rattle.tc_base.specs.declared.hook.Hook.{Hook}
use Rattle.filter_state.specs.declared.edit.Edit.{Edit}
use Rattle.filter_state.specs.Journals.{state_at}
use Rattle.filter_lists.specs.Spells.{Spells}
use Rattle.walk_rules.specs.Steps.{Standing}
use Rattle.point_walks.specs.declared.fault.PointFault.{PointFault}
use Rattle.point_walks.specs.Faults.{IsFault}
use Rattle.point_walks.specs.Visits.{IsWalkAt}
use Rattle.lawful_runs.specs.declared.loaded.LoadedJob.{LoadedJob}
use Rattle.report_laws.specs.Stands.{Stand}
use Rattle.report_laws.specs.OfWholePaths.FirstBadLines.{TakesNone}
use Rattle.report_laws.specs.OfNextLines.Walks.{answers_of}
use Rattle.tool_words.specs.declared.reason.Reason.{Reason}
use Rattle.tool_words.specs.declared.reason.Reason.TheVariants as reasons
use Rattle.report_check.specs.Reasons.{IsReason, reason_of}
use Rattle.report_check.specs.OfReading.Packets.{ShowsPoints}
use Rattle.report_check.specs.declared.events.cursor.Cursor.{Cursor}
use Rattle.report_check.specs.OfEvents.Cursors.{IsNextLine}
use Rattle.report_check.specs.declared.walker.Walker.{Walker}

-- if the next line shows a worker and points, these are they
abbrev pub ShowsWalk : List ℕ → Cursor → Option ℕ → List ℕ → Type 0
ShowsWalk bytes cursor worker points = (line : List ℕ) (number other : ℕ) (shown : List ℕ)
    → IsNextLine bytes cursor line → ShowsPoints line number other shown
    → (worker ≡ Some other) × (points ≡ shown)

-- the walk of a frame over the states of a journal, within the floor of a worker and the journal's end
abbrev pub WalksTo : List Edit → Hook → List ℕ → ℕ → List ℕ → Standing → Type 0
WalksTo journal hook frame floor points end =
    IsWalkAt (answers_of journal) hook frame (record { floor = floor; ceiling = length journal }) points end

-- why there is none, over the same states and within the same bounds
abbrev pub FaultsBy : List Edit → Hook → List ℕ → ℕ → List ℕ → Reason → Type 0
FaultsBy journal hook frame floor points reason = (fault : PointFault)
    × IsFault (answers_of journal) hook frame (record { floor = floor; ceiling = length journal }) points
    fault
    × (reason ≡ reason_of fault)

-- no walk begins at these points: there are none, or the first one is before the floor or behind the ceiling
abbrev pub BeginsOutside : ℕ → ℕ → List ℕ → Type 0
BeginsOutside floor ceiling [] = Unit {0}
BeginsOutside floor ceiling (first ∷ points) = (first < floor) ⊎ (ceiling < first)

-- a worker's lists stand at a point of the journal, which it has seen
pub record StandsIn (journal : List Edit) (walker : Walker) : Type 0 where
  pub within : walker.at ≤ length journal
  pub spells : Spells walker.lists (state_at walker.at journal)

-- and its lists stand at the first of these points
pub record StandsAtFirst (points : List ℕ) (walker : Walker) : Type 0 where
  pub first : ℕ
  pub more : List ℕ
  pub points_are : points ≡ first ∷ more
  pub at_first : walker.at ≡ first

-- no line that comes next may come: for that reason, if it shows this packet, worker and points, and else
-- since it isn't the packet's
pub record IsRefusedShown (loaded : LoadedJob) (bytes : List ℕ) (cursor : Cursor) (stand : Stand)
    (number worker : ℕ) (points : List ℕ) (reason : Reason) : Type 0 where
  pub never : (line : List ℕ) → IsNextLine bytes cursor line → TakesNone loaded stand line
  pub shown : (line : List ℕ) → IsNextLine bytes cursor line → ShowsPoints line number worker points
      → IsReason loaded stand line reason
  pub none : (line : List ℕ) → IsNextLine bytes cursor line → (ShowsPoints line number worker points → ⊥)
      → IsReason loaded stand line reasons.Packet
