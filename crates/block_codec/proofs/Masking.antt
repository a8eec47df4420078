-- A mask's words, and the mask in words.
use Rattle.std.proofs.Common.{◌≡◌, ℕ, zero, suc, ◌+◌, ◌-◌, ◌*◌, ◌/◌, ◌%◌, ◌^◌, ◌<◌, ◌≤◌, List, ◌∷◌, length, get_or, take, map, Option, None, Some, refl, ap, sym, ◌∙◌, subst, arith, set, get_or-set_same, get_or-set_other}
use mathlib.Core.Logic.{dite}
use native.Mathlib.Decide.{dec_le, ℕ_discrete}
use Rattle.std.specs.Prelude.{All, IsTrue}
use Rattle.std.specs.List.{slice_range, range_with_len}
use Rattle.std.proofs.lemmas.List.{get_or_default}
use Rattle.std.proofs.Math.ListN.{get_or-eq_default}
use Rattle.std.proofs.lemmas.List.FromFn.{fill_by_all, length-map-range_with_len, get_or-map-range_with_len, take-map-range_with_len}
use Rattle.std.proofs.lemmas.Bool.Decides.{nat_tests}
use Rattle.store_history.specs.declared.places.TheConstants.{ROWS}
use Rattle.flow_mask.specs.Sizes.{is_size}
use Rattle.block_codec.specs.declared.mask.StoredMask.{StoredMask}
use Rattle.block_codec.specs.Blocks.{plus_one, IsTheOnly}
use Rattle.block_codec.specs.Masks.{quarters, rows_word, IsMaskBlock}
use Rattle.block_codec.specs.Reading.{row_in, rows_of, HasRows, HasMask, mask_read}
use Rattle.block_codec.proofs.Standing.{link_word, link_fits, blank_at, is_blank, none_only, pair_only, Stands, stands_of, block_of_stands, length_part, part_at, part_is}
use Rattle.block_codec.proofs.Halves.{first_of, second_of, third_of, fourth_of, quarters_of}

abbrev front_of : StoredMask → List ℕ
front_of stored = 2 ∷ stored.serial ∷ stored.size ∷ stored.mask.words

abbrev names_of : StoredMask → List ℕ
names_of stored = map (rows_word stored.rows) (range_with_len 0 16)

pub sized : (n : ℕ) → IsTrue (is_size n) → (n ≡ 16 * (n / 16)) × (n ≤ 1024)
sized n is = grind (arith, nat_tests)

small_at : (rows : List ℕ) → All (λ row. row < ROWS) rows → (k : ℕ) → get_or rows k 0 < 65536
small_at rows all k = dite (dec_le (suc k) (length rows)) (λ low. let h = all k 0 low in omega arith) (λ high. let h = get_or-eq_default rows 0 {n = k} (omega arith) in omega arith)

by_digit : (rows : List ℕ) (at j : ℕ) → ((k : ℕ) → get_or rows k 0 < 65536) → j < 4 → rows_word rows at / 2 ^ (16 * j) % 65536 ≡ get_or rows (4 * at + j) 0
by_digit rows at zero small low = first_of _ _ _ _ (small (4 * at)) (small (4 * at + 1)) (small (4 * at + 2)) ∙ ap (λ k. get_or rows k 0) (omega arith)
by_digit rows at (suc zero) small low = second_of _ _ _ _ (small (4 * at)) (small (4 * at + 1)) (small (4 * at + 2))
by_digit rows at (suc (suc zero)) small low = third_of _ _ _ _ (small (4 * at)) (small (4 * at + 1)) (small (4 * at + 2))
by_digit rows at (suc (suc (suc zero))) small low = fourth_of _ _ _ _ (small (4 * at)) (small (4 * at + 1)) (small (4 * at + 2)) (small (4 * at + 3))
by_digit rows at (suc (suc (suc (suc j)))) small low = absurd (omega arith)

stands : (words : List ℕ) (it : StoredMask × Option ℕ) → IsMaskBlock words it → Stands words (front_of it.0) (names_of it.0) it.1
stands words it b = let long = b.mask in let n = length-map-range_with_len (rows_word it.0.rows) 0 16 in
    stands_of words (front_of it.0) (names_of it.0) it.1 (omega arith) b.words_are

-- the number at a place is the row there
row_is : (words : List ℕ) (it : StoredMask × Option ℕ) → IsMaskBlock words it → (place : ℕ) → place < 64 → row_in words place ≡ get_or it.0.rows place 0
row_is words it b place low = let s = stands words it b in let long = b.mask in let n = length-map-range_with_len (rows_word it.0.rows) 0 16 in
    let word : get_or words (17 + place / 4) 0 ≡ rows_word it.0.rows (place / 4) =
    ap (λ k. get_or words k 0) (omega arith) ∙ (s.named (place / 4) (omega arith) ∙ get_or-map-range_with_len (rows_word it.0.rows) 0 16 (place / 4) (place / 4) 0 (omega arith) (omega arith)) in
    ap (λ w. w / 2 ^ (16 * (place % 4)) % 65536) word ∙ (by_digit it.0.rows (place / 4) (place % 4) (small_at it.0.rows b.storable.each_row) (omega arith) ∙ ap (λ k. get_or it.0.rows k 0) (omega arith))

rows_are : (words : List ℕ) (it : StoredMask × Option ℕ) (count : ℕ) → IsMaskBlock words it → length it.0.rows ≡ count → count ≤ 64 → rows_of count words ≡ it.0.rows
rows_are words it count b long few = sym (fill_by_all (row_in words) it.0.rows count 0 long (λ k low. sym (row_is words it b k (omega arith))))

first_rows : (words : List ℕ) (count : ℕ) → count ≤ 64 → take count (rows_of 64 words) ≡ rows_of count words
first_rows words count few = take-map-range_with_len (row_in words) 0 64 count few

-- the words of a mask are those that are looked for
has_of : (words : List ℕ) (it : StoredMask × Option ℕ) → length words ≡ 40 → IsMaskBlock words it → HasMask words
has_of words it wide b = let s = stands words it b in let long = b.mask in let n = length-map-range_with_len (rows_word it.0.rows) 0 16 in
    let serial : get_or words 1 0 ≡ it.0.serial = s.in_front 1 (omega arith) in
    let size : get_or words 2 0 ≡ it.0.size = s.in_front 2 (omega arith) in
    let fits = b.serial in let rows = b.storable.rows in
    let count : length it.0.rows ≡ get_or words 2 0 / 16 = omega arith in
    let most = (sized it.0.size b.storable.size).1 in
    let all : length (rows_of 64 words) ≡ 64 = length-map-range_with_len (row_in words) 0 64 in record {
      front = record { kind = s.in_front 0 (omega arith); serial = omega arith; size = rw size b.storable.size };
      rows = record {
        rows = subst (All (λ row. row < ROWS)) (sym (first_rows words (get_or words 2 0 / 16) (omega arith) ∙ rows_are words it (get_or words 2 0 / 16) b count (omega arith))) b.storable.each_row;
        rest = λ k d low. let m = length_part (rows_of 64 words) (get_or words 2 0 / 16) 64 (omega arith) in
            get_or_default (slice_range (rows_of 64 words) (get_or words 2 0 / 16) 64) k d 0 low
            ∙ (part_at (rows_of 64 words) (get_or words 2 0 / 16) 64 k (omega arith)
            ∙ (get_or-map-range_with_len (row_in words) 0 64 (get_or words 2 0 / 16 + k) (get_or words 2 0 / 16 + k) 0 (omega arith) (omega arith)
            ∙ (row_is words it b (get_or words 2 0 / 16 + k) (omega arith) ∙ get_or-eq_default it.0.rows 0 (omega arith))));
      };
      rest = is_blank words 33 wide (λ i high low. s.blank i (omega arith) low);
      link = rw s.linked (link_word it.1 b.link);
    }

-- and the mask that is read from them is that mask
mask_back : (words : List ℕ) (it : StoredMask × Option ℕ) → length words ≡ 40 → IsMaskBlock words it → mask_read words ≡ it.0
mask_back words it wide b = let s = stands words it b in let long = b.mask in
    let serial : get_or words 1 0 ≡ it.0.serial = s.in_front 1 (omega arith) in
    let size : get_or words 2 0 ≡ it.0.size = s.in_front 2 (omega arith) in
    let rows = b.storable.rows in let most = (sized it.0.size b.storable.size).1 in
    let key = part_is words it.0.mask.words 3 17 (omega arith) (omega arith) (λ k low. s.in_front (3 + k) (omega arith) ∙ in_key k) in
    let list = rows_are words it (get_or words 2 0 / 16) b (omega arith) (omega arith) in
    λ i. record { serial = serial i; size = size i; mask = record { words = key i }; rows = list i }
  where
    in_key : (k : ℕ) → get_or (front_of it.0) (3 + k) 0 ≡ get_or it.0.mask.words k 0
    in_key k = ap (λ j. get_or (front_of it.0) j 0) (let e : 3 + k ≡ suc (suc (suc k)) = omega arith in e)

-- the rows that are read, at each place
row_or : (words : List ℕ) (count place : ℕ) → count ≤ 64 → HasRows count words → place < 64 → get_or (rows_of count words) place 0 ≡ row_in words place
row_or words count place few h low = let m = length-map-range_with_len (row_in words) 0 count in let all : length (rows_of 64 words) ≡ 64 = length-map-range_with_len (row_in words) 0 64 in
    dite (dec_le (suc place) count)
    (λ inside. get_or-map-range_with_len (row_in words) 0 count place place 0 inside (omega arith))
    (λ past. let k : ℕ = place - count in let n = length_part (rows_of 64 words) count 64 (omega arith) in let is : count + k ≡ place = omega arith in
    get_or-eq_default (rows_of count words) 0 (omega arith)
    ∙ sym (sym (get_or-map-range_with_len (row_in words) 0 64 (count + k) place 0 (omega arith) (omega arith)) ∙ (sym (part_at (rows_of 64 words) count 64 k (omega arith)) ∙ h.rest k 0 (omega arith))))

row_at : (words : List ℕ) (at j : ℕ) → j < 4 → row_in words (4 * at + j) ≡ get_or words (17 + at) 0 / 2 ^ (16 * j) % 65536
row_at words at j low = let d : (4 * at + j) / 4 ≡ at = omega arith in let m : (4 * at + j) % 4 ≡ j = omega arith in
    λ i. get_or words (17 + d i) 0 / 2 ^ (16 * m i) % 65536

word_back : (words : List ℕ) (count at : ℕ) → count ≤ 64 → HasRows count words → get_or words (17 + at) 0 < 18446744073709551616 → at < 16 → rows_word (rows_of count words) at ≡ get_or words (17 + at) 0
word_back words count at few h fits low =
    let a = ap (λ k. get_or (rows_of count words) k 0) (let e : 4 * at ≡ 4 * at + 0 = omega arith in e) ∙ (row_or words count (4 * at + 0) few h (omega arith) ∙ row_at words at 0 (omega arith)) in
    let b = row_or words count (4 * at + 1) few h (omega arith) ∙ row_at words at 1 (omega arith) in
    let c = row_or words count (4 * at + 2) few h (omega arith) ∙ row_at words at 2 (omega arith) in
    let d = row_or words count (4 * at + 3) few h (omega arith) ∙ row_at words at 3 (omega arith) in
    (λ i. quarters (a i) (b i) (c i) (d i)) ∙ quarters_of (get_or words (17 + at) 0) fits

-- words that are looked for are those of the mask that is read from them
block_of : (words : List ℕ) (link : Option ℕ) → length words ≡ 40 → ((i : ℕ) → get_or words i 0 < 18446744073709551616) → HasMask words → plus_one link ≡ get_or words 39 0
    → IsMaskBlock words (mask_read words, link)
block_of words link wide fits h e =
    let size = sized (get_or words 2 0) h.front.size in let sixteen = size.0 in let most = size.1 in
    let count : ℕ = get_or words 2 0 / 16 in
    let few : count ≤ 64 = omega arith in
    let m : length (rows_of count words) ≡ count = length-map-range_with_len (row_in words) 0 count in
    let key : length (slice_range words 3 17) ≡ 14 = length_part words 3 17 (omega arith) in
    let n = length-map-range_with_len (rows_word (rows_of count words)) 0 16 in
    let serial = h.front.serial in
    record {
      storable = record { size = h.front.size; rows = omega arith; each_row = subst (All (λ row. row < ROWS)) (first_rows words count few) h.rows.rows };
      serial = omega arith;
      mask = key;
      link = link_fits link (rw e h.link);
      words_are = block_of_stands words (front_of (mask_read words)) (names_of (mask_read words)) link wide (omega arith) record {
        in_front = front key;
        named = λ k low. ap (λ j. get_or words j 0) (omega arith) ∙ (sym (word_back words count k few h.rows (fits (17 + k)) (omega arith))
            ∙ sym (get_or-map-range_with_len (rows_word (rows_of count words)) 0 16 k k 0 (omega arith) (omega arith)));
        blank = λ i high low. blank_at words 33 i wide h.rest (omega arith) low;
        linked = sym e;
      };
    }
  where
    front : length (slice_range words 3 17) ≡ 14 → (i : ℕ) → i < length (front_of (mask_read words)) → get_or words i 0 ≡ get_or (front_of (mask_read words)) i 0
    front key zero low = h.front.kind
    front key (suc zero) low = refl
    front key (suc (suc zero)) low = refl
    front key (suc (suc (suc k))) low = ap (λ j. get_or words j 0) (omega arith) ∙ sym (part_at words 3 17 k (omega arith))

-- nothing is read where nothing is found
pub none_read : (words : List ℕ) → length words ≡ 40 → (HasMask words → ⊥) → IsTheOnly (IsMaskBlock words) None
none_read words wide lacks = none_only (IsMaskBlock words) (λ it b. lacks (has_of words it wide b))

pub some_read : (words : List ℕ) (stored : StoredMask) (link : Option ℕ) → length words ≡ 40 → ((i : ℕ) → get_or words i 0 < 18446744073709551616) → HasMask words
    → stored ≡ mask_read words → plus_one link ≡ get_or words 39 0 → IsTheOnly (IsMaskBlock words) (Some (stored, link))
some_read words stored link wide fits has is e = pair_only (IsMaskBlock words) stored link
    (subst (λ f. IsMaskBlock words (f, link)) (sym is) (block_of words link wide fits has e))
    (λ it b. (is ∙ mask_back words it wide b, e ∙ (stands words it b).linked))

-- one more place is filled
pub filled : (f : ℕ → ℕ) (rows : List ℕ) (place number : ℕ) → place < length rows → number ≡ f place → ((k : ℕ) → k < place → get_or rows k 0 ≡ f k) → (k : ℕ) → k < place + 1 → get_or (set rows place number) k 0 ≡ f k
filled f rows place number inside e h k low = dite (ℕ_discrete k place)
    (λ is. ap (λ j. get_or (set rows place number) j 0) is ∙ (get_or-set_same rows place number 0 inside ∙ (e ∙ ap f (sym is))))
    (λ ne. get_or-set_other rows place k number 0 ne ∙ h k (omega arith))
