-- Room for a mask that is laid anew (this project's own).
use Rattle.std.specs.Prelude.{◌≡◌, ℕ, ◌≤◌, [], vec_capacity}
use Rattle.desk_needs.specs.OfEditNeeds.Told.{laid, laid_rows}
use Rattle.shared_hook.specs.OfDeskEdits.Spent.{HasRoom}
use Rattle.shared_hook.specs.declared.desk_edits.moves.mask_room.MaskRoom.{MaskRoom}

-- empty, with room for the numbers and the filters of a mask that has so many
abbrev pub HasMaskRoom : MaskRoom → ℕ → Type 0
HasMaskRoom room count = HasRoom room.numbers (laid count) (laid_rows count) × (room.filters.items ≡ [])
    × (count ≤ vec_capacity room.filters)
