-- An edit that goes to a head, once the masks that it makes are built (this project's own). `h` is all
-- commits before the head's, b is the base, and y is the edit.
use Rattle.std.specs.Prelude.{ℕ, ◌<◌, List}
use Rattle.store_history.specs.declared.places.TheConstants.{MASK_SLOTS}
use Rattle.tc_base.specs.declared.hook.Hook.{Hook}
use Rattle.visit_room.specs.declared.names.MaskName.{MaskName}
use Rattle.store_history.specs.declared.history.Commit.{Commit}
use Rattle.filter_state.specs.declared.edit.Edit.{Edit}
use Rattle.miniq_pair.specs.Heads.{hook_number}
use Rattle.hook_law.specs.Keeping.{IsAtRest}
use Rattle.hook_store_law.specs.Stated.{hook_meaning, tables_at}
use Rattle.hook_store_law.specs.Blocks.{hook_codec}
use Rattle.hook_store_law.specs.OfEdits.Premises.{now, next, LeavesOtherHook}
use Rattle.desk_heads.specs.OfHeadCommits.Listed.{HasSerial}
use Rattle.desk_heads.specs.OfHeadCommits.Raised.{IsReady}
use Rattle.desk_heads.specs.OfHeadCommits.Given.{AreFresh}
use Rattle.desk_heads.specs.OfHeadCommits.Built.{IsBuilt, IsConcerned}

-- the edit changes the tables of the hook, and what changes beside these is built
pub record GivesTables (h : List (Commit Edit)) (b : ℕ) (y : Edit) (hook : Hook)
    (built : List MaskName) : Type 0 where
  pub ready : IsReady h b y
  pub rest : IsAtRest hook_meaning hook_codec h
  pub leaves : LeavesOtherHook hook (IsConcerned h y built) (now h) (next h y)
  pub fresh : AreFresh h b y (IsBuilt built)
  pub here : (mask slot : ℕ) → IsBuilt built mask slot
      → HasSerial (tables_at (next h y) (hook_number hook)) mask
  pub small : (mask slot : ℕ) → IsBuilt built mask slot → slot < MASK_SLOTS
