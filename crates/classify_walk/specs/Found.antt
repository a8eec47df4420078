-- A mask that was found by its serial, and the filter of it that a frame meets.
use Rattle.filter_state.specs.declared.limits.TheConstants.{LINE_ACTIONS_MAX}
use Rattle.std.specs.Prelude.{◌≡◌, ℕ, ◌≤◌, ◌==◌, Bool, List, [], length, Option, Some, None}
use Rattle.std.specs.List.{list_any}
use Rattle.tc_base.specs.declared.hook.Hook.{Hook}
use Rattle.flow_fields.specs.Values.{values_of, IsTidy}
use Rattle.flow_mask.specs.Masks.{is_match}
use Rattle.filter_index.specs.declared.filter.Filter.{Filter}
use Rattle.filter_state.specs.Sound.{Each}
use Rattle.filter_tables.specs.Plain.{PlainMask, PlainTable}
use Rattle.filter_tables.specs.Places.{item_at}
use Rattle.filter_tables.specs.Rows.{tables_on}
use Rattle.hook_lists.specs.declared.kept.Kept.{Kept}
use Rattle.hook_lists.specs.States.{both_of, AreKept}
use Rattle.walk_rules.specs.Questions.{Answer, told_no_filter, told_actions}
pub use Rattle.head_laws.specs.Heads.{is_mask}

-- ---- a mask by its serial
abbrev pub has_mask : ℕ → PlainTable → Bool
has_mask serial table = list_any (is_mask serial) table.masks

-- the mask is one of some, and has that serial
pub record IsOneOf (masks : List PlainMask) (serial : ℕ) (mask : PlainMask) : Type 0 where
  pub place : ℕ
  pub there : item_at masks place ≡ Some mask
  pub named : mask.serial ≡ serial

-- it is so in a table of some
pub record IsIn (tables : List PlainTable) (serial : ℕ) (mask : PlainMask) : Type 0 where
  pub table : PlainTable
  pub place : ℕ
  pub there : item_at tables place ≡ Some table
  pub within : IsOneOf table.masks serial mask

-- it is so on a hook of lists
pub record IsMaskOf (lists : Kept) (serial : ℕ) (mask : PlainMask) : Type 0 where
  pub kept : AreKept lists
  pub hook : Hook
  pub stands : IsIn (tables_on hook (both_of lists)) serial mask

-- ---- the filter of a mask
-- a frame with those field values meets the filter of the mask
abbrev pub is_met : List ℕ → PlainMask → Filter → Bool
is_met values mask filter = is_match values (values_of mask.mask) (values_of filter.key.words)

-- the actions of a filter that may be there
abbrev pub actions_in : Option Filter → List ℕ
actions_in (Some filter) = filter.actions
actions_in None = []

-- what a look-up answers
abbrev pub actions_told : Option Filter → Answer
actions_told (Some filter) = told_actions filter.actions
actions_told None = told_no_filter

-- each filter has no more actions than a line may have
abbrev pub FewActions : PlainMask → Type 0
FewActions mask = Each (λ (filter : Filter). length filter.actions ≤ LINE_ACTIONS_MAX) mask.filters

-- fourteen words in the mask and in each key, and no stray bit
pub record AreTidy (mask : PlainMask) : Type 0 where
  pub mask_count : length mask.mask ≡ 14
  pub keys_count : Each (λ (filter : Filter). length filter.key.words ≡ 14) mask.filters
  pub mask_tidy : IsTidy mask.mask
  pub keys_tidy : Each (λ (filter : Filter). IsTidy filter.key.words) mask.filters

-- the mask and the keys have as many words as a frame's key
pub record AreEven (words : List ℕ) (mask : PlainMask) : Type 0 where
  pub mask_even : length mask.mask ≡ length words
  pub keys_even : Each (λ (filter : Filter). length filter.key.words ≡ length words) mask.filters
