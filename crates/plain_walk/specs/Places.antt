-- Where a table stands in lists (this project's own).
use Rattle.std.specs.Prelude.{◌≡◌, ℕ, Some}
use Rattle.tc_base.specs.declared.hook.Hook.{Hook}
use Rattle.filter_tables.specs.Plain.{PlainTable}
use Rattle.filter_tables.specs.Places.{item_at}
use Rattle.filter_tables.specs.Rows.{tables_on}
use Rattle.hook_lists.specs.declared.kept.Kept.{Kept}
use Rattle.hook_lists.specs.States.{both_of, AreKept}

-- the table is one of a hook of lists
pub record IsTableOf (lists : Kept) (table : PlainTable) : Type 0 where
  pub kept : AreKept lists
  pub hook : Hook
  pub place : ℕ
  pub there : item_at (tables_on hook (both_of lists)) place ≡ Some table
