-- The block of a mask reads as the mask, whatever the words of its key are: the same block with zeros in
-- their place reads so, and the rows stand behind them.
use Rattle.std.proofs.Common.{◌≡◌, ◌∙◌, ℕ, suc, ◌+◌, ◌*◌, ◌/◌, ◌%◌, ◌^◌, ◌-◌, ◌<◌, Bool, true, false, List, [], ◌∷◌, ◌++◌, length, map, take, drop, get_or, replicate, Option, Some, None, refl, sym, ap, subst, arith, append_assoc, length-append}
use Rattle.std.specs.Prelude.{All, if◌then◌else◌}
use Rattle.std.specs.List.{range_with_len}
use Rattle.std.specs.Option.{option_map}
use mathlib.Core.Logic.{dite}
use native.Mathlib.Decide.{dec_lt}
use Rattle.std.proofs.lemmas.Bool.{true≢false}
use Rattle.std.proofs.lemmas.List.{take_at, get_or-append-add, get_or_past}
use Rattle.std.proofs.lemmas.List.Elements.{All-cons, All-nil, All-append, All-replicate, All-map, All-get_or}
use Rattle.std.proofs.lemmas.List.FromFn.{length-map-range_with_len}
use Rattle.store_history.specs.declared.places.TheConstants.{ROWS}
use Rattle.block_codec.specs.declared.mask.StoredMask.{StoredMask}
use Rattle.block_codec.specs.Blocks.{block}
use Rattle.block_codec.specs.Masks.{rows_word, mask_words, IsStorableMask, IsMaskBlock}
use Rattle.block_codec.specs.Reading.{row_in, rows_of, mask_read}
use Rattle.block_codec.proofs.Masking.{none_read, sized}
use Rattle.block_codec.proofs.Standing.{length_block}
use Rattle.block_codec.specs.OfReadings.Read.{link_in, is_mask, mask_of_words}
use Rattle.block_codec.proofs.OfReadings.Only.{mask_only}
use Rattle.block_codec.proofs.OfReadings.Testing.{mask_tested}

-- the words of the rows
abbrev row_words : List ℕ → List ℕ
row_words rows = map (rows_word rows) (range_with_len 0 16)

-- what stands behind the key's words
abbrev behind : List ℕ → List ℕ
behind rows = row_words rows ++ (replicate 6 0 ++ 0 ∷ [])

-- how many words a mask's record has
pub length_mask_words : (mask : StoredMask) → length mask.mask.words ≡ 14 → length (mask_words mask) ≡ 33
length_mask_words mask key = let rows = length-map-range_with_len (rows_word mask.rows) 0 16 in let all = length-append mask.mask.words (row_words mask.rows) in omega arith

module _ (mask : StoredMask) (storable : IsStorableMask mask) (serial : mask.serial < 4294967296) (key : length mask.mask.words ≡ 14) where
  abbrev words : List ℕ
  words = block (mask_words mask) None

  long_words : length (mask_words mask) ≡ 33
  long_words = length_mask_words mask key

  long : length words ≡ 40
  long = let few = long_words in length_block (mask_words mask) None (omega arith)

  pub is_block : IsMaskBlock words (mask, None)
  is_block = record { storable = storable; serial = serial; mask = key; link = tt; words_are = refl }

  spelled : words ≡ 2 ∷ mask.serial ∷ mask.size ∷ (mask.mask.words ++ behind mask.rows)
  spelled = let blank : 39 - length (mask_words mask) ≡ 6 = (let few = long_words in omega arith) in
      ap (λ (n : ℕ). (mask_words mask ++ replicate n 0) ++ 0 ∷ []) blank
      ∙ ap (λ (xs : List ℕ). 2 ∷ mask.serial ∷ mask.size ∷ xs)
      (append_assoc (mask.mask.words ++ row_words mask.rows) (replicate 6 0) (0 ∷ []) ∙ append_assoc mask.mask.words (row_words mask.rows) (replicate 6 0 ++ 0 ∷ []))

  at_row : (k : ℕ) → get_or words (17 + k) 0 ≡ get_or (behind mask.rows) k 0
  at_row k = let place : 17 + k ≡ suc (suc (suc (length mask.mask.words + k))) = omega arith in
      ap (λ (xs : List ℕ). get_or xs (17 + k) 0) spelled
      ∙ (ap (λ (j : ℕ). get_or (2 ∷ mask.serial ∷ mask.size ∷ (mask.mask.words ++ behind mask.rows)) j 0) place ∙ get_or-append-add mask.mask.words (behind mask.rows) k 0)

  key_read : take 14 (drop 3 words) ≡ mask.mask.words
  key_read = ap (λ (xs : List ℕ). take 14 (drop 3 xs)) spelled ∙ take_at mask.mask.words (behind mask.rows) 14 key

  tested : is_mask words ≡ true
  tested = pick (is_mask words) refl
    where
      pick : (t : Bool) → is_mask words ≡ t → is_mask words ≡ true
      pick true e = e
      pick false e = let only = (none_read words long (λ has. true≢false (sym (mask_tested words has) ∙ e))).only (mask, None) is_block in absurd (cc only)

-- ---- with zeros for the key
module _ (mask : StoredMask) (storable : IsStorableMask mask) (serial : mask.serial < 4294967296) where
  abbrev blank : StoredMask
  blank = record { serial = mask.serial; size = mask.size; mask = record { words = replicate 14 0 }; rows = mask.rows }

  abbrev as_blank : IsStorableMask blank
  as_blank = record { size = storable.size; rows = storable.rows; each_row = storable.each_row }

  abbrev Is64 : ℕ → Type 0
  Is64 word = word < 18446744073709551616

  small_row : (k : ℕ) → get_or mask.rows k 0 < ROWS
  small_row k = dite (dec_lt k (length mask.rows))
      (λ (less : k < length mask.rows). storable.each_row k 0 less)
      (λ (past : k < length mask.rows → ⊥). let none = get_or_past mask.rows k 0 (omega arith) in omega arith)

  small_rows : (at : ℕ) → Is64 (rows_word mask.rows at)
  small_rows at = let a = small_row (4 * at) in let b = small_row (4 * at + 1) in let c = small_row (4 * at + 2) in let d = small_row (4 * at + 3) in omega arith

  abbrev keyless : List ℕ
  keyless = replicate 14 0 ++ behind mask.rows

  abbrev all : List ℕ
  all = 2 ∷ mask.serial ∷ mask.size ∷ keyless

  all_small : All Is64 all
  all_small = let most = (sized mask.size storable.size).1 in
      All-cons Is64 2 (mask.serial ∷ mask.size ∷ keyless) (omega arith) (All-cons Is64 mask.serial (mask.size ∷ keyless) (omega arith) (All-cons Is64 mask.size keyless (omega arith)
      (All-append Is64 (replicate 14 0) (behind mask.rows) (All-replicate Is64 14 0 (omega arith))
      (All-append Is64 (row_words mask.rows) (replicate 6 0 ++ 0 ∷ []) (All-map Is64 (rows_word mask.rows) (range_with_len 0 16) (λ k d less. small_rows (get_or (range_with_len 0 16) k d)))
      (All-append Is64 (replicate 6 0) (0 ∷ []) (All-replicate Is64 6 0 (omega arith)) (All-cons Is64 0 [] (omega arith) (All-nil Is64)))))))

  small : (place : ℕ) → Is64 (get_or (words blank as_blank serial refl) place 0)
  small place = subst (λ (xs : List ℕ). Is64 (get_or xs place 0)) (sym (spelled blank as_blank serial refl)) (dite (dec_lt place (length all))
      (λ (less : place < length all). All-get_or Is64 all place 0 less all_small)
      (λ (past : place < length all → ⊥). let none = get_or_past all place 0 (omega arith) in omega arith))

  blank_read : mask_read (words blank as_blank serial refl) ≡ blank
  blank_read = pick (is_mask (words blank as_blank serial refl)) ((mask_only (words blank as_blank serial refl) (long blank as_blank serial refl) small).only (blank, None) (is_block blank as_blank serial refl))
    where
      pick : (t : Bool) → option_map {U = StoredMask × Option ℕ} (λ (it : StoredMask). (it, link_in (words blank as_blank serial refl))) (if t then Some (mask_read (words blank as_blank serial refl)) else None) ≡ Some (blank, None)
          → mask_read (words blank as_blank serial refl) ≡ blank
      pick true e = let same : ◌≡◌ {A = StoredMask × Option ℕ} (mask_read (words blank as_blank serial refl), link_in (words blank as_blank serial refl)) (blank, None) = cc e in ap (λ (p : StoredMask × Option ℕ). p.0) same
      pick false e = absurd (cc e)

-- ---- so the mask is read
module _ (mask : StoredMask) (storable : IsStorableMask mask) (serial : mask.serial < 4294967296) (key : length mask.mask.words ≡ 14) where
  abbrev own : List ℕ
  own = words mask storable serial key

  abbrev other : List ℕ
  other = words (blank mask storable serial) (as_blank mask storable serial) serial refl

  rows_read : rows_of (mask.size / 16) own ≡ mask.rows
  rows_read = let same : (place : ℕ) → row_in own place ≡ row_in other place =
      λ place. ap (λ (word : ℕ). word / 2 ^ (16 * (place % 4)) % 65536)
      (at_row mask storable serial key (place / 4) ∙ sym (at_row (blank mask storable serial) (as_blank mask storable serial) serial refl (place / 4))) in
      (λ t. map (λ (place : ℕ). same place t) (range_with_len 0 (mask.size / 16))) ∙ ap (λ (m : StoredMask). m.rows) (blank_read mask storable serial)

  pub mask_block_reads : mask_of_words (block (mask_words mask) None) ≡ Some mask
  mask_block_reads = let words_are = key_read mask storable serial key in let rows_are = rows_read in
      ap (λ (t : Bool). if t then Some (mask_read own) else None) (tested mask storable serial key)
      ∙ (λ t. Some (record { serial = mask.serial; size = mask.size; mask = record { words = words_are t }; rows = rows_are t }))
