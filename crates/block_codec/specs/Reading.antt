-- What is looked at before words are read, and the things that they then are (this project's own).
use Rattle.act_kinds.specs.declared.limits.TheConstants.{CHAIN_MAX}
use Rattle.act_registry.specs.declared.limits.TheConstants.{MADE_MAX}
use Rattle.store_history.specs.declared.places.TheConstants.{ROWS}
use Rattle.std.specs.Prelude.{◌≡◌, ℕ, ◌+◌, ◌*◌, ◌/◌, ◌%◌, ◌^◌, ◌<◌, ◌≤◌, ◌==◌, List, map, take, slice_index}
use Rattle.std.specs.Prelude.{slice_range, if◌then◌else◌, All, IsTrue}
use Rattle.std.specs.List.{range_with_len}
use Rattle.tc_base.specs.declared.hook.Proto.{Proto}
use Rattle.tc_base.specs.declared.hook.Proto.TheVariants as protocols
use Rattle.flow_mask.specs.Sizes.{is_size}
use Rattle.block_codec.specs.declared.filter.StoredFilter.{StoredFilter}
use Rattle.block_codec.specs.declared.mask.StoredMask.{StoredMask}
use Rattle.block_codec.specs.declared.table.StoredTable.{StoredTable}
use Rattle.block_codec.specs.Blocks.{IsBlankFrom}
use Rattle.block_codec.specs.Names.{action_in, mask_in, IsActionName, IsMaskName}

-- the words are those of a filter: its kind, its numbers within their limits, zeros behind its actions, and a
-- link
pub record HasFilter (words : List ℕ) : Type 0 where
  pub kind : slice_index words 0 ≡ 1
  pub handle : (1 ≤ slice_index words 1) × (slice_index words 1 ≤ 4294967295)
  pub few : slice_index words 2 ≤ 16
  pub actions : All (λ word. IsActionName (action_in word)) (slice_range words 17 (17 + slice_index words 2))
  pub rest : IsBlankFrom (17 + slice_index words 2) words
  pub link : slice_index words 39 ≤ 2 ^ 32

-- the filter that the words are then those of
abbrev pub filter_read : List ℕ → StoredFilter
filter_read words = record {
  handle = slice_index words 1;
  key = record { words = slice_range words 3 17 };
  actions = map action_in (slice_range words 17 (17 + slice_index words 2));
}

-- the number at a place of the rows' words
abbrev pub row_in : List ℕ → ℕ → ℕ
row_in words place = slice_index words (17 + place / 4) / 2 ^ (16 * (place % 4)) % 2 ^ 16

-- the first so many of them
abbrev pub rows_of : ℕ → List ℕ → List ℕ
rows_of count words = map (row_in words) (range_with_len 0 count)

-- there are so many rows, and zeros behind them
pub record HasRows (count : ℕ) (words : List ℕ) : Type 0 where
  pub rows : All (λ row. row < ROWS) (take count (rows_of 64 words))
  pub rest : All (λ row. row ≡ 0) (slice_range (rows_of 64 words) count 64)

-- the first words are those of a mask: its kind, its serial, and one of the sizes
pub record HasMaskFront (words : List ℕ) : Type 0 where
  pub kind : slice_index words 0 ≡ 2
  pub serial : slice_index words 1 ≤ 4294967295
  pub size : IsTrue (is_size (slice_index words 2))

-- all words are those of a mask: the first ones, its rows with zeros behind them, and a link
pub record HasMask (words : List ℕ) : Type 0 where
  pub front : HasMaskFront words
  pub rows : HasRows (slice_index words 2 / 16) words
  pub rest : IsBlankFrom 33 words
  pub link : slice_index words 39 ≤ 2 ^ 32

-- the mask that the words are then those of
abbrev pub mask_read : List ℕ → StoredMask
mask_read words = record {
  serial = slice_index words 1;
  size = slice_index words 2;
  mask = record { words = slice_range words 3 17 };
  rows = rows_of (slice_index words 2 / 16) words;
}

-- the protocol with a number
abbrev pub protocol_in : ℕ → Proto
protocol_in number = if number == 65536 then protocols.All else protocols.Ether number

-- the words are those of a table: its kind, its numbers within their limits, zeros behind its masks, and a
-- link
pub record HasTable (words : List ℕ) : Type 0 where
  pub kind : slice_index words 0 ≡ 3
  pub pref : (1 ≤ slice_index words 1 / 2 ^ 32) × (slice_index words 1 / 2 ^ 32 ≤ 65535)
  pub chain : slice_index words 2 % 2 ^ 32 ≤ CHAIN_MAX
  pub protocol : slice_index words 2 / 2 ^ 32 ≤ 65536
  pub few : slice_index words 3 ≤ 16
  pub masks : All (λ word. IsMaskName (mask_in word)) (slice_range words 4 (4 + slice_index words 3))
  pub rest : IsBlankFrom (4 + slice_index words 3) words
  pub link : slice_index words 39 ≤ 2 ^ 32

-- the table that the words are then those of
abbrev pub table_read : List ℕ → StoredTable
table_read words = record {
  serial = slice_index words 1 % 2 ^ 32;
  chain = slice_index words 2 % 2 ^ 32;
  pref = slice_index words 1 / 2 ^ 32;
  protocol = protocol_in (slice_index words 2 / 2 ^ 32);
  masks = map mask_in (slice_range words 4 (4 + slice_index words 3));
}

-- the words beside the parameters are those of an action: its kind, its numbers within their limits, zeros,
-- and a link
pub record HasAction (words : List ℕ) : Type 0 where
  pub kind : slice_index words 0 ≡ 4
  pub serial : (1 ≤ slice_index words 1 % 2 ^ 32) × (slice_index words 1 % 2 ^ 32 ≤ MADE_MAX)
  pub index : 1 ≤ slice_index words 1 / 2 ^ 32
  pub rest : IsBlankFrom 7 words
  pub link : slice_index words 39 ≤ 2 ^ 32
