-- A stored mask (this project's own).
use Rattle.store_history.specs.declared.places.TheConstants.{ROWS}
use Rattle.std.specs.Prelude.{◌≡◌, ℕ, ◌+◌, ◌*◌, ◌^◌, ◌<◌, List, ◌∷◌, ◌++◌, map, length, slice_index, Option}
use Rattle.std.specs.Prelude.{All, IsTrue}
use Rattle.std.specs.List.{range_with_len}
use Rattle.flow_mask.specs.Sizes.{is_size}
use Rattle.block_codec.specs.declared.mask.StoredMask.{StoredMask}
use Rattle.block_codec.specs.Blocks.{block, IsLink}

-- a word with four numbers of 16 bits, the first lowest
abbrev pub quarters : ℕ → ℕ → ℕ → ℕ → ℕ
quarters a b c d = a + b * 2 ^ 16 + c * 2 ^ 32 + d * 2 ^ 48

-- four rows from a place on, each 0 where there is none
abbrev pub rows_word : List ℕ → ℕ → ℕ
rows_word rows at = quarters (slice_index rows (4 * at)) (slice_index rows (4 * at + 1))
    (slice_index rows (4 * at + 2)) (slice_index rows (4 * at + 3))

-- the kind of block, the serial, the size, the mask's words, and the row numbers, four a word
abbrev pub mask_words : StoredMask → List ℕ
mask_words stored =
    2 ∷ stored.serial ∷ stored.size ∷ (stored.mask.words ++ map (rows_word stored.rows) (range_with_len 0 16))

-- the limits of a mask's numbers: each row has sixteen of its buckets
pub record IsStorableMask (stored : StoredMask) : Type 0 where
  pub size : IsTrue (is_size stored.size)
  pub rows : stored.size ≡ 16 * length stored.rows
  pub each_row : All (λ row. row < ROWS) stored.rows

-- these are the words of that mask, with that link
pub record IsMaskBlock (words : List ℕ) (it : StoredMask × Option ℕ) : Type 0 where
  pub storable : IsStorableMask it.0
  pub serial : it.0.serial < 2 ^ 32
  pub mask : length it.0.mask.words ≡ 14
  pub link : IsLink it.1
  pub words_are : words ≡ block (mask_words it.0) it.1
