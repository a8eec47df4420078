-- The tables of a hook that are kept, against those that its root names (this project's own). `h` is all
-- commits.
use Rattle.std.specs.Prelude.{◌≡◌, ◌≤◌, List, length, All}
use Rattle.tc_base.specs.declared.hook.Hook.{Hook}
use Rattle.store_history.specs.declared.history.Commit.{Commit}
use Rattle.store_history.specs.History.{root_of}
use Rattle.filter_state.specs.declared.edit.Edit.{Edit}
use Rattle.block_codec.specs.declared.places.TheConstants.{TABLES}
use Rattle.miniq_pair.specs.Heads.{head_root}
use Rattle.miniq_pair.specs.Pairs.{first_block_of, table_links}
use Rattle.desk_masks.specs.OfHeadChains.Chains.{FitsTable}
use Rattle.desk_masks.specs.declared.hook_tables.HookTables.{HookTables}

-- THE TABLES: the hook's root names these tables, in the blocks of the active place, and each fits a block
pub record HasTables (hook : Hook) (kept : HookTables) (h : List (Commit Edit)) : Type 0 where
  pub of_hook : kept.pair.hook ≡ hook
  pub chain : (root_of h (head_root hook)).chain ≡ table_links (first_block_of hook kept.pair.active) kept.tables
  pub fit : All FitsTable kept.tables
  pub few : length kept.tables ≤ TABLES
