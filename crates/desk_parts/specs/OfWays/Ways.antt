-- How an accepted edit of filters is going to be done, by what it finds (this project's own). `h` is all
-- commits before it, and y is the edit.
use Rattle.std.specs.Prelude.{◌≡◌, ◌≢◌, ℕ, ◌+◌, ◌-◌, ◌<◌, ◌≤◌, List, Option, Some, None, Ok}
use Rattle.std.specs.Str.{bytes_eq}
use Rattle.tc_base.specs.declared.hook.Hook.{Hook}
use Rattle.tc_base.specs.declared.hook.Proto.{Proto}
use Rattle.store_history.specs.declared.history.Commit.{Commit}
use Rattle.flow_mask.specs.Sizes.{size_of}
use Rattle.filter_state.specs.declared.limits.TheConstants.{FILTERS_MAX}
use Rattle.filter_state.specs.declared.edit.Edit.{Edit}
use Rattle.filter_state.specs.declared.edit.Edit.TheVariants as edits
use Rattle.filter_state.specs.declared.edit.FilterLine.{FilterLine}
use Rattle.filter_state.specs.States.{Row}
use Rattle.filter_state.specs.Tables.{mask_row, filter_row}
use Rattle.filter_state.specs.Steps.{pref_for}
use Rattle.hook_law.specs.Standing.{IsMaskAt}
use Rattle.hook_store_law.specs.Stated.{filters_at}
use Rattle.hook_store_law.specs.Blocks.{hook_codec}
use Rattle.hook_store_law.specs.OfEdits.Premises.{now, IsAddOf, named_row}
use Rattle.desk_masks.specs.OfFilterCommits.Edits.{HasLater}
use Rattle.desk_needs.specs.declared.needs.Needs.{Needs}
use Rattle.desk_needs.specs.Live.{count_of}
use Rattle.desk_needs.specs.Needs.{nothing}
use Rattle.desk_needs.specs.OfEditNeeds.Told.{blocks_anew, rows_anew, put_into, put_with, moved_to}
use Rattle.desk_parts.specs.declared.ways.seeking.Seen.{Seen}
use Rattle.desk_parts.specs.declared.ways.way.Way.{Way}
use Rattle.desk_parts.specs.declared.ways.way.Way.TheVariants as ways

-- a mask that stands at a slot, with so many filters
pub record IsMaskWith (h : List (Commit Edit)) (serial slot count : ℕ) : Type 0 where
  pub at : IsMaskAt hook_codec h serial slot
  pub counted : count ≡ count_of (now h) serial

-- so many filters of its mask are behind this one in its bucket
abbrev pub HasBehind : List (Commit Edit) → Row → ℕ → Type 0
HasBehind h row later = HasLater (size_of (count_of (now h) row.mask_serial)) row.handle
    (filters_at (now h) row.mask_serial) later

-- the row is that of a filter with this handle
pub record IsThere (h : List (Commit Edit)) (row : Row) (handle : ℕ) : Type 0 where
  pub hook : Hook
  pub chain : ℕ
  pub pref : ℕ
  pub found : filter_row hook chain pref handle (now h).rows ≡ Some row

-- a filter comes into a mask that stands, in the table to which the line's pref leads
pub record IntoMask (h : List (Commit Edit)) (y : Edit) (slot count : ℕ) : Type 0 where
  pub line : FilterLine
  pub pref : ℕ
  pub row : Row
  pub add : IsAddOf (now h) line y
  pub chosen : pref_for (now h) line.hook line.chain line.pref ≡ Ok pref
  pub there : mask_row line.hook line.chain pref line.mask.words (now h).rows ≡ Some row
  pub mask : IsMaskWith h row.mask_serial slot count

-- the table has no such mask, or isn't there
pub record WithMask (h : List (Commit Edit)) (y : Edit) (hook : Hook) : Type 0 where
  pub line : FilterLine
  pub add : IsAddOf (now h) line y
  pub on : hook ≡ line.hook
  pub none : (pref : ℕ) → pref_for (now h) line.hook line.chain line.pref ≡ Ok pref
      → mask_row line.hook line.chain pref line.mask.words (now h).rows ≡ None

-- the filter that a line replaces
pub record Replaces (h : List (Commit Edit)) (y : Edit) (line : FilterLine) (row : Row) : Type 0 where
  pub is : y ≡ edits.FilterReplace line
  pub there : named_row (now h) line ≡ Some row

-- with the same mask and key it stays in its place
pub record InPlace (h : List (Commit Edit)) (y : Edit) (slot later : ℕ) : Type 0 where
  pub line : FilterLine
  pub row : Row
  pub replaces : Replaces h y line row
  pub same_mask : row.mask ≡ line.mask.words
  pub same_key : row.key ≡ line.key.words
  pub at : IsMaskAt hook_codec h row.mask_serial slot
  pub behind : HasBehind h row later

-- with another key it comes last in its mask
pub record OtherKey (h : List (Commit Edit)) (y : Edit) (hook : Hook) (slot count : ℕ) : Type 0 where
  pub line : FilterLine
  pub row : Row
  pub replaces : Replaces h y line row
  pub on : hook ≡ line.hook
  pub same_mask : row.mask ≡ line.mask.words
  pub other_key : row.key ≢ line.key.words
  pub mask : IsMaskWith h row.mask_serial slot count

-- the line's mask in the table of a filter, which stands at the slot with so many filters, or not
abbrev pub IsTarget : List (Commit Edit) → Option Row → Option ℕ → ℕ → Type 0
IsTarget h None None others = others ≡ 0
IsTarget h (Some row) (Some slot) others = IsMaskWith h row.mask_serial slot others
IsTarget h found into others = ⊥

-- with another mask it leaves its own
pub record OtherMask (h : List (Commit Edit)) (y : Edit) (hook : Hook) (slot count : ℕ) (into : Option ℕ)
    (others : ℕ) : Type 0 where
  pub line : FilterLine
  pub row : Row
  pub replaces : Replaces h y line row
  pub on : hook ≡ line.hook
  pub other_mask : row.mask ≢ line.mask.words
  pub mask : IsMaskWith h row.mask_serial slot count
  pub target : IsTarget h (mask_row line.hook line.chain row.pref line.mask.words (now h).rows) into others

-- a filter is deleted, and its mask has others
pub record OutOfMask (h : List (Commit Edit)) (y : Edit) (slot count later : ℕ) : Type 0 where
  pub hook : Hook
  pub protocol : Option Proto
  pub chain : ℕ
  pub pref : ℕ
  pub handle : ℕ
  pub row : Row
  pub is : y ≡ edits.FilterDel hook protocol chain pref (Some handle)
  pub there : filter_row hook chain pref handle (now h).rows ≡ Some row
  pub mask : IsMaskWith h row.mask_serial slot count
  pub others : 1 < count
  pub behind : HasBehind h row later

-- a filter is deleted that is alone in its mask, or a whole table
pub record IsAlone (h : List (Commit Edit)) (hook : Hook) (chain pref handle : ℕ) : Type 0 where
  pub row : Row
  pub there : filter_row hook chain pref handle (now h).rows ≡ Some row
  pub alone : count_of (now h) row.mask_serial ≡ 1

abbrev pub TakesMasks : List (Commit Edit) → Hook → ℕ → ℕ → Option ℕ → Type 0
TakesMasks h hook chain pref None = Unit {0}
TakesMasks h hook chain pref (Some handle) = IsAlone h hook chain pref handle

pub record Closes (h : List (Commit Edit)) (y : Edit) (hook : Hook) : Type 0 where
  pub protocol : Option Proto
  pub chain : ℕ
  pub pref : ℕ
  pub handle : Option ℕ
  pub is : y ≡ edits.FilterDel hook protocol chain pref handle
  pub takes : TakesMasks h hook chain pref handle

-- what is seen of the filter with a handle: its mask, and whether it has the line's mask and key
pub record IsSeen (h : List (Commit Edit)) (line : FilterLine) (pref handle : ℕ) (seen : Seen) : Type 0 where
  pub row : Row
  pub there : filter_row line.hook line.chain pref handle (now h).rows ≡ Some row
  pub mask : IsMaskWith h row.mask_serial seen.mask.slot seen.mask.count
  pub few : seen.mask.count ≤ FILTERS_MAX
  pub has_mask : seen.has_mask ≡ bytes_eq row.mask line.mask.words
  pub has_key : seen.has_key ≡ bytes_eq row.key line.key.words

-- THE WAY OF AN EDIT
abbrev pub IsWay : List (Commit Edit) → Edit → Way → Type 0
IsWay h y (ways.IntoMask slot count) = IntoMask h y slot count
IsWay h y (ways.WithMask hook) = WithMask h y hook
IsWay h y (ways.InPlace slot later) = InPlace h y slot later
IsWay h y (ways.OtherKey hook slot count) = OtherKey h y hook slot count
IsWay h y (ways.OtherMask hook slot count into others) = OtherMask h y hook slot count into others
IsWay h y (ways.OutOfMask slot count later) = OutOfMask h y slot count later
IsWay h y (ways.Closes hook) = Closes h y hook

-- no mask has more filters than a state, and one that a filter leaves has some
abbrev pub AreFew : Way → Type 0
AreFew (ways.IntoMask slot count) = count ≤ FILTERS_MAX
AreFew (ways.WithMask hook) = Unit {0}
AreFew (ways.InPlace slot later) = later ≤ FILTERS_MAX
AreFew (ways.OtherKey hook slot count) = count ≤ FILTERS_MAX
AreFew (ways.OtherMask hook slot count into others) =
    (1 ≤ count) × (count ≤ FILTERS_MAX) × (others ≤ FILTERS_MAX)
AreFew (ways.OutOfMask slot count later) = (1 ≤ count) × (count ≤ FILTERS_MAX) × (later ≤ FILTERS_MAX)
AreFew (ways.Closes hook) = Unit {0}

-- WHAT IS NEEDED, with so many new actions
abbrev pub needs_by : ℕ → Way → Needs
needs_by made (ways.IntoMask slot count) = put_into made count
needs_by made (ways.WithMask hook) = put_with hook made
needs_by made (ways.InPlace slot later) =
    record { blocks = made + later + 1; rows = 0; masks = 0; actions = made; head = None }
needs_by made (ways.OtherKey hook slot count) = moved_to hook made count 0
needs_by made (ways.OtherMask hook slot count into others) = moved_to hook made (others + 1) (count - 1)
needs_by made (ways.OutOfMask slot count later) = record nothing {
  blocks = later + blocks_anew count (count - 1);
  rows = rows_anew count (count - 1);
}
needs_by made (ways.Closes hook) = record nothing { head = Some hook }
