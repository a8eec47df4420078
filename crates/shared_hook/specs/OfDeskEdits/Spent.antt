-- What whole edits take of the pools, and what leaves (this project's own). `y` is the edit.
use Rattle.std.specs.Prelude.{◌≡◌, ◌⊎◌, ℕ, ◌+◌, ◌≤◌, List, [], length, vec_capacity, eqb}
use Rattle.std.specs.List.{IsDistinct}
use Rattle.store_history.specs.declared.history.Commit.{Commit}
use Rattle.filter_state.specs.declared.edit.Edit.{Edit}
use Rattle.hook_law.specs.Meaning.{IsLive}
use Rattle.hook_law.specs.Standing.{IsIn}
use Rattle.hook_store_law.specs.Stated.{hook_meaning}
use Rattle.hook_store_law.specs.OfEdits.Premises.{now, next}
use Rattle.desk_needs.specs.declared.needs.Needs.{Needs}
use Rattle.desk_needs.specs.Needs.{made}
use Rattle.desk_pools.specs.declared.pools.Pools.{Pools}
use Rattle.desk_actions.specs.Effects.{IsCounted}
use Rattle.shared_hook.specs.declared.desk_edits.room.Room.{Room}
use Rattle.desk_parts.specs.declared.ways.way.Way.{Way}
use Rattle.desk_parts.specs.OfWays.Ways.{needs_by}

-- how many actions the edit makes, after these commits
abbrev pub made_by : List (Commit Edit) → Edit → ℕ
made_by h y = made (now h) (next h y)

-- what it needs that is done in this way
abbrev pub needed : List (Commit Edit) → Edit → Way → Needs
needed h y way = needs_by (made_by h y) way

-- the pools have so many free blocks, rows and slots of actions
abbrev pub HaveFree : Pools → Needs → Type 0
HaveFree pools needs = (needs.blocks ≤ length pools.blocks.free) × (needs.rows ≤ length pools.rows.free)
    × (needs.actions ≤ length pools.actions.free)

-- empty, with room for so many blocks and rows
abbrev pub HasRoom : Room → ℕ → ℕ → Type 0
HasRoom room blocks rows = (room.blocks.items ≡ []) × (room.rows.items ≡ [])
    × (blocks ≤ vec_capacity room.blocks) × (rows ≤ vec_capacity room.rows)

-- those of these actions that are live no more after these commits, each once
pub record AreDead (h : List (Commit Edit)) (serials gone : List ℕ) : Type 0 where
  pub once : IsDistinct eqb gone
  pub dead : (action : ℕ) → IsIn action gone
      → IsIn action serials × (IsLive hook_meaning (now h) action → ⊥)
  pub all : (action : ℕ) → IsIn action serials → IsLive hook_meaning (now h) action ⊎ IsIn action gone

-- What was needed of blocks and of slots of actions was taken. So many blocks left, and with them a block and
-- a slot for each of these actions that is live no more; `h` is all commits, the edit's with them.
pub record LeftWithActions (old new : Pools) (h : List (Commit Edit)) (serials : List ℕ) (needs : Needs)
    (leaving : ℕ) : Type 0 where
  pub gone : List ℕ
  pub are_gone : AreDead h serials gone
  pub blocks : IsCounted old.blocks new.blocks needs.blocks (leaving + length gone)
  pub actions : IsCounted old.actions new.actions needs.actions (length gone)
