-- The commit of an edit that gives a hook its tables anew, over the parts of a desk that it changes (this
-- project's own).
use Rattle.std.specs.Prelude.{◌≡◌, ◌≢◌, ℕ, ◌+◌, ◌≤◌, [], ◌∷◌, ◌++◌, true}
use Rattle.tc_base.specs.declared.hook.Hook.{Hook}
use Rattle.tc_base.specs.declared.hook.Hook.TheVariants.{Ingress, Egress}
use Rattle.store_history.specs.History.{root_of, edits_of}
use Rattle.pin_store.specs.Sheets.{IsSameButCells}
use Rattle.pin_store.specs.Calls.{sheet_of}
use Rattle.filter_state.specs.declared.edit.Edit.{Edit}
use Rattle.filter_lists.specs.Spells.{Spells}
use Rattle.miniq_pair.specs.Pairs.{other_place}
use Rattle.hook_law.specs.Keeping.{IsAtRest}
use Rattle.hook_store_law.specs.Stated.{hook_meaning}
use Rattle.hook_store_law.specs.Blocks.{hook_codec}
use Rattle.hook_store_law.specs.Kept.{IsKeptAt}
use Rattle.hook_store_law.specs.OfEdits.Premises.{next}
use Rattle.desk_pools.specs.declared.pools.Pools.{Pools}
use Rattle.desk_pools.specs.Pools.{ArePools}
use Rattle.desk_pools.specs.Steps.{turned}
use Rattle.desk_actions.specs.declared.ledgers.ledger.Ledger.{Ledger}
use Rattle.desk_actions.specs.OfLedgers.Kept.{commits, base}
use Rattle.desk_masks.specs.declared.hook_tables.HookTables.{HookTables}
use Rattle.desk_masks.specs.Tables.{HasTables}
use Rattle.desk_parts.specs.declared.parts.Parts.{Parts}
use Rattle.desk_parts.specs.Desk.{shape_of, hook_shape}
use Rattle.shared_hook.specs.OfDeskEdits.Ahead.{IsLawfulAt, GoesOnAside}
use Rattle.desk_heads.specs.Handed.{idle_of, AreActionsHanded}

-- the tables of a hook that a desk keeps
abbrev pub tables_of : Hook → Parts → HookTables
tables_of Ingress parts = parts.ingress
tables_of Egress parts = parts.egress

-- the desk with other ones
abbrev pub with_tables : Hook → HookTables → Parts → Parts
with_tables Ingress heads parts = record parts { ingress = heads }
with_tables Egress heads parts = record parts { egress = heads }

-- what is asked: the lists are one edit ahead, the hook's idle place may be filled, and slots of actions that
-- were put for the edit are in no pool
pub record MaySwap (hook : Hook) (y : Edit) (ledger : Ledger) (pools : Pools) (heads : HookTables)
    : Type 0 where
  pub shaped : shape_of ledger.writer.place ≡ hook_shape
  pub kept : IsLawfulAt (commits ledger) (base ledger) ledger.point
  pub recent : (root : ℕ) → (root_of (commits ledger) root).stamp ≤ ledger.point + 1
  pub pools_are : ArePools pools (commits ledger) (base ledger)
  pub tables : HasTables hook heads (commits ledger)
  pub spells : Spells ledger.lists (next (commits ledger) y)
  pub idle : (idle_of hook pools).place ≡ other_place heads.pair.active
  pub free : (idle_of hook pools).is_free ≡ true
  pub actions : AreActionsHanded pools (commits ledger) (base ledger) y

-- what is left: one edit more, with the law and the sizes kept and the lists as they were; the hook's other
-- place is active, and the other hook has its tables
pub record IsSwapped (hook : Hook) (y : Edit) (old now : Ledger) (pools left : Pools)
    (heads given : HookTables) : Type 0 where
  pub shaped : shape_of now.writer.place ≡ hook_shape
  pub aside : GoesOnAside (commits old) (commits now)
  pub journal : edits_of (commits now) ≡ edits_of (commits old) ++ y ∷ []
  pub kept : IsKeptAt (commits now) (base now) now.point
  pub rest : IsAtRest hook_meaning hook_codec (commits now)
  pub lists : now.lists ≡ old.lists
  pub point : now.point ≡ old.point + 1
  pub sheet : IsSameButCells (sheet_of old.writer.place) (sheet_of now.writer.place)
  pub turns : left ≡ turned hook pools
  pub pools_are : ArePools left (commits now) (base now)
  pub tables : HasTables hook given (commits now)
  pub active : given.pair.active ≡ other_place heads.pair.active
  pub others : (other : Hook) (kept : HookTables) → hook ≢ other → HasTables other kept (commits old)
      → HasTables other kept (commits now)
