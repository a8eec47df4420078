-- The names of a filter's actions (this project's own). `h` is all commits.
use Rattle.std.specs.Prelude.{ℕ, List, map}
use Rattle.store_history.specs.declared.history.Commit.{Commit}
use Rattle.visit_room.specs.declared.names.ActionName.{ActionName}
use Rattle.filter_state.specs.declared.edit.Edit.{Edit}
use Rattle.filter_state.specs.States.{State}
use Rattle.filter_state.specs.Sound.{Sound}
use Rattle.hook_law.specs.Records.{StatedFilter}
use Rattle.hook_law.specs.Meaning.{IsLive}
use Rattle.hook_law.specs.Standing.{IsIn, IsSlotOf}
use Rattle.hook_store_law.specs.Stated.{hook_meaning, filters_at}
use Rattle.hook_store_law.specs.Blocks.{hook_codec}
use Rattle.desk_actions.specs.Places.{Placed, slot_of}

-- the actions with these serials, at the slots where they are
abbrev pub named : Placed → List ℕ → List ActionName
named placed serials = map (λ serial. record { serial = serial; slot = slot_of placed serial }) serials

-- the filter is one of a sound state, in which each live action has its slot by commits
pub record CanBeNamed (h : List (Commit Edit)) (s : State) (placed : Placed) (f : StatedFilter)
    : Type 0 where
  pub sound : Sound s
  pub mask : ℕ
  pub there : IsIn f (filters_at s mask)
  pub slots : (action : ℕ) → IsLive hook_meaning s action
      → IsSlotOf hook_codec h action (slot_of placed action)
