-- What a change that can be made finds in the tables of its hook.
use Rattle.std.proofs.Common.{◌≡◌, ℕ, ◌<◌, [], subst}
use Rattle.filter_index.specs.Listed.{FilterRoom}
use Rattle.filter_tables.specs.Plain.{PlainTable}
use Rattle.filter_tables.specs.Room.{TableRoom, masks_spare, filters_spare}
use Rattle.filter_tables.proofs.Moves.{item_there}
use Rattle.filter_lists.specs.declared.adding.arrival.Arrival.{Arrival}
use Rattle.filter_lists.specs.declared.replacing.replacement.Change.{Change}
use Rattle.filter_lists.specs.declared.replacing.replacement.Change.TheVariants as changes
use Rattle.filter_lists.specs.declared.replacing.replacement.Old.{Old}
use Rattle.filter_lists.specs.OfReplacing.Changing.{FitsIn, CanChange}

fits_there : (room : TableRoom) (old : Old) (change way : Change) → change ≡ way → CanChange room old change → (t : PlainTable) × FitsIn room.spares old t way
fits_there room old change way is can =
    let there = item_there room.tables old.table can.within in
    (there.0, subst (FitsIn room.spares old there.0) is (can.fits there.0 there.1))

pub moves_room : (room : TableRoom) (old : Old) (change : Change) (to : ℕ) (a : Arrival) → change ≡ changes.Moves to a → CanChange room old change → 0 < filters_spare room.spares old.table to
moves_room room old change to a is can = (fits_there room old change (changes.Moves to a) is can).1.2

pub out_room : (room : TableRoom) (old : Old) (change : Change) (filters : FilterRoom) (a : Arrival) → change ≡ changes.MovesOut filters a → CanChange room old change →
    (0 < masks_spare room.spares old.table) × (filters.filters ≡ []) × (0 < filters.spare)
out_room room old change filters a is can =
    let fits = (fits_there room old change (changes.MovesOut filters a) is can).1 in
    (fits.1, fits.2, fits.3)
