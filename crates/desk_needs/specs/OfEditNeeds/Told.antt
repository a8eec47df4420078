-- What edits of filters need, by the counts of what they find (this project's own).
use Rattle.std.specs.Prelude.{ℕ, ◌+◌, ◌-◌, ◌/◌, ◌==◌, not, Some, None, if◌then◌else◌}
use Rattle.tc_base.specs.declared.hook.Hook.{Hook}
use Rattle.flow_mask.specs.Sizes.{size_of}
use Rattle.filter_state.specs.States.{Row, State}
use Rattle.store_history.specs.declared.places.TheConstants.{ROW_BUCKETS}
use Rattle.desk_needs.specs.Live.{count_of}
use Rattle.desk_needs.specs.declared.needs.Needs.{Needs}
use Rattle.desk_needs.specs.Needs.{nothing, later}

-- a mask that had so many filters and gets so many is laid anew where these ask for another number of buckets
abbrev pub blocks_anew : ℕ → ℕ → ℕ
blocks_anew before after = if not (size_of after == size_of before) then after + 1 else 0

abbrev pub rows_anew : ℕ → ℕ → ℕ
rows_anew before after = if not (size_of after == size_of before) then size_of after / ROW_BUCKETS else 0

-- one filter more in a mask that has so many, with so many new actions
abbrev pub put_into : ℕ → ℕ → Needs
put_into made count = record {
  blocks = made + 1 + blocks_anew count (count + 1);
  rows = rows_anew count (count + 1);
  masks = 0;
  actions = made;
  head = None;
}

-- a filter with a mask of its own
abbrev pub put_with : Hook → ℕ → Needs
put_with hook made = record { blocks = made + 2; rows = 1; masks = 1; actions = made; head = Some hook }

-- a mask of so many filters is laid anew whole, where it has any
abbrev pub laid : ℕ → ℕ
laid count = if count == 0 then 0 else count + 1

abbrev pub laid_rows : ℕ → ℕ
laid_rows count = if count == 0 then 0 else size_of count / ROW_BUCKETS

abbrev pub laid_masks : ℕ → ℕ
laid_masks count = if count == 0 then 0 else 1

-- a filter moves: its new mask has so many filters afterwards, and its old one, where that is another and has
-- any, so many
abbrev pub moved_to : Hook → ℕ → ℕ → ℕ → Needs
moved_to hook made to from = record {
  blocks = made + laid to + laid from;
  rows = laid_rows to + laid_rows from;
  masks = laid_masks to + laid_masks from;
  actions = made;
  head = Some hook;
}

-- a filter goes, and leaves its mask or takes it with it
abbrev pub taken_from : Hook → State → Row → Needs
taken_from hook s row =
    let count : ℕ = count_of s row.mask_serial in
    if count == 1 then record nothing { head = Some hook } else record nothing {
      blocks = later s row + blocks_anew count (count - 1);
      rows = rows_anew count (count - 1);
    }
