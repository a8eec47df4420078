-- How the forty words of a block read (this project's own): as the one thing whose words they are, or as
-- nothing.
use Rattle.act_kinds.specs.declared.limits.TheConstants.{CHAIN_MAX}
use Rattle.act_registry.specs.declared.limits.TheConstants.{MADE_MAX}
use Rattle.store_history.specs.declared.places.TheConstants.{ACTION_SLOTS, MASK_SLOTS, ROWS}
use Rattle.std.specs.Prelude.{ℕ, zero, suc, ◌+◌, ◌/◌, ◌%◌, ◌^◌, ◌==◌, ◌&&◌, Bool, true, nat_lt, nat_le, List}
use Rattle.std.specs.Prelude.{take, slice_index, slice_range, Option, Some, None, if◌then◌else◌}
use Rattle.std.specs.List.{list_all}
use Rattle.std.specs.Option.{option_map}
use Rattle.std.specs.Str.{bytes_eq}
use Rattle.act_kinds.specs.declared.params.Control.{Control}
use Rattle.act_kinds.specs.declared.params.Control.TheVariants as controls
use Rattle.act_kinds.specs.declared.params.Params.{Params}
use Rattle.act_kinds.specs.declared.params.Params.TheVariants as params
use Rattle.flow_mask.specs.Sizes.{is_size}
use Rattle.block_codec.specs.declared.filter.StoredFilter.{StoredFilter}
use Rattle.block_codec.specs.declared.mask.StoredMask.{StoredMask}
use Rattle.block_codec.specs.declared.table.StoredTable.{StoredTable}
use Rattle.block_codec.specs.declared.action.StoredAction.{StoredAction}
use Rattle.block_codec.specs.Names.{action_in, mask_in}
use Rattle.block_codec.specs.Parameters.{params_words}
use Rattle.block_codec.specs.Reading.{filter_read, rows_of, mask_read, table_read}
use Rattle.block_codec.specs.ReadingParameters.{params_in}

-- ---- the link
-- the block that the last word links to
abbrev pub block_before : ℕ → Option ℕ
block_before zero = None
block_before (suc block) = Some block

abbrev pub link_in : List ℕ → Option ℕ
link_in words = block_before (slice_index words 39)

abbrev pub is_linked : List ℕ → Bool
is_linked words = nat_le (slice_index words 39) (2 ^ 32)

-- the words from a place on are 0, but for the link
abbrev pub is_zero : ℕ → Bool
is_zero word = word == 0

abbrev pub is_blank_from : ℕ → List ℕ → Bool
is_blank_from at words = list_all is_zero (slice_range words at 39)

-- ---- a filter
abbrev pub is_action_word : ℕ → Bool
is_action_word word = nat_le 1 (action_in word).serial
    && (nat_le (action_in word).serial MADE_MAX && nat_lt (action_in word).slot ACTION_SLOTS)

abbrev pub is_filter : List ℕ → Bool
is_filter words =
    slice_index words 0 == 1
    && (nat_le 1 (slice_index words 1) && (nat_le (slice_index words 1) 4294967295
    && (nat_le (slice_index words 2) 16
    && (list_all is_action_word (slice_range words 17 (17 + slice_index words 2))
    && (is_blank_from (17 + slice_index words 2) words && is_linked words)))))

abbrev pub filter_in : List ℕ → Option StoredFilter
filter_in words = if is_filter words then Some (filter_read words) else None

-- ---- a mask
abbrev pub is_row : ℕ → Bool
is_row number = nat_lt number ROWS

abbrev pub is_mask : List ℕ → Bool
is_mask words =
    slice_index words 0 == 2
    && (nat_le (slice_index words 1) 4294967295
    && (is_size (slice_index words 2)
    && (list_all is_row (take (slice_index words 2 / 16) (rows_of 64 words))
    && (list_all is_zero (slice_range (rows_of 64 words) (slice_index words 2 / 16) 64)
    && (is_blank_from 33 words && is_linked words)))))

abbrev pub mask_of_words : List ℕ → Option StoredMask
mask_of_words words = if is_mask words then Some (mask_read words) else None

-- ---- a table
abbrev pub is_mask_word : ℕ → Bool
is_mask_word word = nat_lt (mask_in word).serial (2 ^ 32) && nat_lt (mask_in word).slot MASK_SLOTS

abbrev pub is_table : List ℕ → Bool
is_table words =
    slice_index words 0 == 3
    && (nat_le 1 (slice_index words 1 / 2 ^ 32) && (nat_le (slice_index words 1 / 2 ^ 32) 65535
    && (nat_le (slice_index words 2 % 2 ^ 32) CHAIN_MAX
    && (nat_le (slice_index words 2 / 2 ^ 32) 65536
    && (nat_le (slice_index words 3) 16
    && (list_all is_mask_word (slice_range words 4 (4 + slice_index words 3))
    && (is_blank_from (4 + slice_index words 3) words && is_linked words)))))))

abbrev pub table_in : List ℕ → Option StoredTable
table_in words = if is_table words then Some (table_read words) else None

-- ---- an action
-- a chain or a place to jump to is within its limit
abbrev pub is_within : Control → Bool
is_within (controls.Jump place) = nat_le place CHAIN_MAX
is_within (controls.Goto chain) = nat_le chain CHAIN_MAX
is_within control = true

abbrev pub is_storable : Params → Bool
is_storable (params.Gact control) = is_within control
is_storable (params.Vlan op control) = is_within control
is_storable (params.Skbedit priority mark queue control) = is_within control

-- parameters whose words these are
abbrev pub checked : List ℕ → Option Params → Option Params
checked words None = None
checked words (Some given) = if is_storable given && bytes_eq (params_words given) words then Some given
    else None

abbrev pub params_of_words : List ℕ → Option Params
params_of_words words = checked words (params_in words)

abbrev pub is_action : List ℕ → Bool
is_action words =
    slice_index words 0 == 4
    && (nat_le 1 (slice_index words 1 % 2 ^ 32) && (nat_le (slice_index words 1 % 2 ^ 32) MADE_MAX
    && (nat_le 1 (slice_index words 1 / 2 ^ 32)
    && (is_blank_from 7 words && is_linked words))))

abbrev pub action_with : List ℕ → Params → StoredAction
action_with words given = record {
  serial = slice_index words 1 % 2 ^ 32;
  index = slice_index words 1 / 2 ^ 32;
  params = given;
}

abbrev pub action_of_words : List ℕ → Option StoredAction
action_of_words words = if is_action words
    then option_map (action_with words) (params_of_words (slice_range words 2 7)) else None
