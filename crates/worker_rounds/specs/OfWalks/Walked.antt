-- The walk of a packet at a reader of a hook's store (this project's own).
use Rattle.std.specs.Prelude.{◌≡◌, ℕ, ◌+◌, ◌≤◌, min, List, [], length, Some}
use mathlib.Core.List.{IsPrefix}
use Rattle.tc_base.specs.declared.hook.Hook.{Hook}
use Rattle.store_history.specs.History.{edits_of}
use Rattle.pin_store.specs.Calls.{seen_by}
use Rattle.filter_state.specs.declared.edit.Edit.{Edit}
use Rattle.filter_state.specs.Journals.{state_at}
use Rattle.filter_state.specs.Sound.{Each}
use Rattle.walk_rules.specs.Steps.{begun}
use Rattle.walk_rules.specs.Walks.{Outcome, IsWalk, outcome_of}
use Rattle.walk_steps.specs.Walking.{Walking}
use Rattle.walk_rules.specs.OfPoints.Points.{Visit, IsVisited, AreLawfulPoints}
use Rattle.hook_reader.specs.Seats.{HookSeat}

-- the edits of all that a reader has seen
abbrev pub journal_of : HookSeat → List Edit
journal_of reader = edits_of (seen_by reader.place)

-- A PACKET'S WALK: what the reader has seen behind it answers each visit at the visit's point, and the points
-- are lawful for all that it had seen before. What it has seen has only grown.
pub record IsWalkedBy (old new : HookSeat) (hook : Hook) (bytes : List ℕ) (walk : Walking) : Type 0 where
  pub outcome : Outcome
  pub visits : List Visit
  pub walks : IsWalk (IsVisited (λ point. state_at point (journal_of new))) [] (begun hook bytes) walk.points
      visits outcome
  pub ended : outcome_of walk.standing ≡ Some outcome
  pub points : AreLawfulPoints old.latest (length (journal_of new)) visits
  pub grown : IsPrefix (seen_by old.place) (seen_by new.place)
  pub later : old.latest ≤ new.latest
  pub seen : Each (λ (point : ℕ). point ≤ new.latest) walk.points
  pub counted : new.visits ≡ min (old.visits + length walk.points) 18446744073709551615
