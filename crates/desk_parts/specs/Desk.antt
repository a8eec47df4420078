-- What holds of a desk between two edits (this project's own).
use Rattle.std.specs.Prelude.{◌≡◌, ℕ, List}
use Rattle.atomic_table.specs.declared.shared.Seat.{Seat}
use Rattle.tc_base.specs.declared.hook.Hook.TheVariants.{Ingress, Egress}
use Rattle.pin_store.specs.declared.shape.Shape.{Shape}
use Rattle.pin_store.specs.declared.view.View.{View}
use Rattle.pin_store.specs.Calls.{sheet_of}
use Rattle.store_history.specs.declared.places.TheConstants.{ROOTS}
use Rattle.block_codec.specs.declared.places.TheConstants.{BLOCKS, BLOCK_WORDS, READERS}
use Rattle.store_history.specs.declared.places.TheConstants.{POOL_BLOCKS, ROWS, MASK_SLOTS, ACTION_SLOTS}
use Rattle.filter_state.specs.declared.edit.Edit.{Edit}
use Rattle.miniq_pair.specs.Pairs.{other_place}
use Rattle.desk_pools.specs.declared.pools.Pools.{Pools}
use Rattle.desk_pools.specs.Pools.{ArePools}
use Rattle.desk_actions.specs.declared.ledgers.ledger.Ledger.{Ledger}
use Rattle.desk_actions.specs.OfLedgers.Kept.{commits, base, IsWhole}
use Rattle.desk_actions.specs.Places.{AreHere}
use Rattle.desk_masks.specs.Masks.{HasMasks}
use Rattle.desk_masks.specs.Tables.{HasTables}
use Rattle.desk_parts.specs.declared.parts.Parts.{Parts}

-- the shape of the store of which a seat is
abbrev pub shape_of : Seat (Unit {0}) (View Edit) → Shape
shape_of place = place.me.0.shape

abbrev pub hook_shape : Shape
hook_shape = record { blocks = BLOCKS; words = BLOCK_WORDS; roots = ROOTS; readers = READERS }

-- the words of all blocks of a ledger's store
abbrev pub cells : Ledger → List ℕ
cells l = (sheet_of l.writer.place).cells

-- the numbers of each pool are those below its size
abbrev pub AreSized : Pools → Type 0
AreSized pools = (pools.blocks.size ≡ POOL_BLOCKS) × (pools.rows.size ≡ ROWS)
    × (pools.masks.size ≡ MASK_SLOTS) × (pools.actions.size ≡ ACTION_SLOTS)

-- THE DESK: the lists are the state of the journal; what the pools have may be given, or left; each live
-- action stands where it is said to; the writer of masks holds what heads name; and each hook's root names
-- the tables that are kept, at the place that isn't idle
pub record IsDesk (parts : Parts) : Type 0 where
  pub shaped : shape_of parts.ledger.writer.place ≡ hook_shape
  pub whole : IsWhole parts.ledger
  pub pools : ArePools parts.pools (commits parts.ledger) (base parts.ledger)
  pub sized : AreSized parts.pools
  pub actions : AreHere parts.actions (commits parts.ledger)
  pub masks : HasMasks parts.masks hook_shape (cells parts.ledger) (commits parts.ledger)
  pub ingress : HasTables Ingress parts.ingress (commits parts.ledger)
  pub egress : HasTables Egress parts.egress (commits parts.ledger)
  pub idle_ingress : parts.pools.ingress.place ≡ other_place parts.ingress.pair.active
  pub idle_egress : parts.pools.egress.place ≡ other_place parts.egress.pair.active
