-- What contracts see of a desk and of the readers that nobody took yet (this project's own).
use Rattle.std.specs.Prelude.{◌≡◌, ℕ, List, length}
use Rattle.atomic_table.specs.declared.shared.Seat.{Seat}
use Rattle.tc_base.specs.declared.hook.Hook.TheVariants as hooks
use Rattle.store_history.specs.History.{edits_of}
use Rattle.pin_store.specs.declared.view.View.{View}
use Rattle.pin_store.specs.Calls.{seen_by}
use Rattle.filter_state.specs.declared.edit.Edit.{Edit}
use Rattle.hook_lists.specs.declared.kept.Kept.{Kept}
use Rattle.hook_reader.specs.Seats.{HookSeat}
use Rattle.desk_needs.specs.declared.pool.Pool.{Pool}
use Rattle.desk_needs.specs.declared.pool.Pool.TheVariants as pools
use Rattle.desk_pools.specs.declared.pools.Pools.{Pools}
use Rattle.desk_parts.specs.declared.parts.Parts.{Parts}
use Rattle.shared_hook.specs.OfBalance.Counts.{free_place, left_place}
use Rattle.shared_hook.specs.declared.counts.PoolCounts.{PoolCounts}

abbrev pub count_of : PoolCounts → Pool → ℕ
count_of counts pools.Blocks = counts.blocks
count_of counts pools.Rows = counts.rows
count_of counts pools.MaskRoots = counts.masks
count_of counts pools.ActionRoots = counts.actions
count_of counts (pools.Head hooks.Ingress) = counts.ingress
count_of counts (pools.Head hooks.Egress) = counts.egress

abbrev pub free_in : Pools → PoolCounts
free_in p = record {
  blocks = length p.blocks.free;
  rows = length p.rows.free;
  masks = length p.masks.free;
  actions = length p.actions.free;
  ingress = free_place p.ingress;
  egress = free_place p.egress;
}

abbrev pub left_in : Pools → PoolCounts
left_in p = record {
  blocks = length p.blocks.left;
  rows = length p.rows.left;
  masks = length p.masks.left;
  actions = length p.actions.left;
  ingress = left_place p.ingress;
  egress = left_place p.egress;
}

-- THE DESK: the seat of the store's writer, which has seen all commits, the lists, and of each pool how many
-- are free and how many left
pub record DeskView : Type 0 where
  pub place : Seat (Unit {0}) (View Edit)
  pub lists : Kept
  pub free : PoolCounts
  pub left : PoolCounts

abbrev pub view_of : Parts → DeskView
view_of parts = record {
  place = parts.ledger.writer.place;
  lists = parts.ledger.lists;
  free = free_in parts.pools;
  left = left_in parts.pools;
}

-- the edits that were accepted, in order
abbrev pub journal : DeskView → List Edit
journal desk = edits_of (seen_by desk.place)

-- ---- readers
-- it has made no visit, and seen no point
abbrev pub IsUnused : HookSeat → Type 0
IsUnused reader = (reader.visits ≡ 0) × (reader.latest ≡ 0)
