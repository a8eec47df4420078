-- A mask that is read is within the limits.
use Rattle.std.proofs.Common.{◌≡◌, ℕ, ◌*◌, ◌/◌, ◌<◌, ◌≤◌, List, [], ◌∷◌, length, get_or, Some, None, Bool, true, false, refl, subst, arith}
use Rattle.std.specs.Prelude.{All, if◌then◌else◌}
use Rattle.std.proofs.lemmas.List.FromFn.{length-map-range_with_len, take-map-range_with_len}
use Rattle.store_history.specs.declared.history.Link.{Link}
use Rattle.store_history.specs.Reads.{read_first}
use Rattle.store_history.specs.declared.places.TheConstants.{ROWS, ROOTS}
use Rattle.block_codec.specs.declared.mask.StoredMask.{StoredMask}
use Rattle.block_codec.specs.Reading.{HasMask, row_in, rows_of, mask_read}
use Rattle.block_codec.proofs.Masking.{sized}
use Rattle.block_codec.specs.OfReadings.Read.{is_mask, mask_of_words}
use Rattle.mask_table.specs.Buckets.{bucket_root}
use Rattle.block_codec.proofs.OfReadings.Testing.{mask_has}

pub record IsWithin (mask : StoredMask) : Type 0 where
  pub some : 0 < mask.size
  pub most : mask.size ≤ 1024
  pub rows : mask.size ≡ 16 * length mask.rows
  pub small : All (λ row. row < ROWS) mask.rows

read_within : (words : List ℕ) → HasMask words → IsWithin (mask_read words)
read_within words h =
    let size = sized (get_or words 2 0) h.front.size in let sixteen = size.0 in let most = size.1 in
    let count : ℕ = get_or words 2 0 / 16 in let few : count ≤ 64 = omega arith in
    let m : length (rows_of count words) ≡ count = length-map-range_with_len (row_in words) 0 count in record {
      some = grind (arith, sixteen, h.front.size);
      most = most;
      rows = omega arith;
      small = subst (All (λ row. row < ROWS)) (take-map-range_with_len (row_in words) 0 64 count few) h.rows.rows;
    }

of_words : (words : List ℕ) (mask : StoredMask) → mask_of_words words ≡ Some mask → IsWithin mask
of_words words mask e = by (is_mask words) refl e
  where
    by : (t : Bool) → is_mask words ≡ t → (if t then Some (mask_read words) else None) ≡ Some mask → IsWithin mask
    by true holds is = let same : mask_read words ≡ mask = cc (is) in subst IsWithin same (read_within words (mask_has words holds))
    by false fails is = absurd (cc (is))

pub within : (chain : List Link) (mask : StoredMask) → read_first mask_of_words chain ≡ Some mask → IsWithin mask
within [] mask e = absurd (cc (e))
within (l ∷ ls) mask e = of_words l.words mask e

-- the root of a bucket is one of the store's
pub root_low : (mask : StoredMask) (bucket : ℕ) → IsWithin mask → bucket < mask.size → bucket_root mask bucket < ROOTS
root_low mask bucket is less = let rows = is.rows in let row = is.small (bucket / 16) 0 (omega arith) in omega arith
