-- What the root of a bucket tells a reader that has read the mask's record.
use Rattle.std.proofs.Common.{◌≡◌, ℕ, ◌/◌, ◌%◌, ◌==◌, ◌<◌, ◌≤◌, Bool, true, false, List, [], ◌∷◌, ◌++◌, length, map, take, slice_get, Some, refl, ap, sym, ◌∙◌, subst, arith, le_refl}
use mathlib.Core.List.{map-map}
use Rattle.std.specs.Prelude.{slice_index, if◌then◌else◌}
use Rattle.std.proofs.lemmas.List.{map-append}
use Rattle.std.proofs.lemmas.Option.{slice_get-get_or}
use Rattle.store_history.specs.declared.history.Commit.{Commit}
use Rattle.store_history.specs.declared.history.Named.{Named}
use Rattle.store_history.specs.History.{root_of, edits_of}
use Rattle.store_history.specs.Reads.{read_all, read_first}
use Rattle.visit_room.specs.declared.names.ActionName.{ActionName}
use Rattle.filter_state.specs.declared.edit.Edit.{Edit}
use Rattle.filter_state.specs.States.{State}
use Rattle.flow_mask.specs.Hashes.{hash_of}
use Rattle.block_codec.specs.declared.filter.StoredFilter.{StoredFilter}
use Rattle.block_codec.specs.declared.mask.StoredMask.{StoredMask}
use Rattle.block_codec.specs.OfReadings.Read.{filter_in, mask_of_words}
use Rattle.hook_law.specs.Places as places
use Rattle.hook_law.specs.Records.{MaskRecord, FilterRecord, StatedFilter, stated_filter}
use Rattle.hook_law.specs.Chains as chains
use Rattle.hook_law.specs.Meaning as law
use Rattle.hook_law.specs.Standing.{Region, Bucket, region_of, IsRowAt}
use Rattle.hook_law.specs.Telling.{Tells}
use Rattle.hook_law.specs.Keeping.{Keeps}
use Rattle.hook_law.specs.Slots.{slotted}
use Rattle.store_history.proofs.Lists.{some_is}
use Rattle.store_history.specs.declared.places.TheConstants.{ROWS}
use Rattle.hook_law.proofs.Points.{tells_all}
use Rattle.hook_law.proofs.Pushing.{last_at_end}
use Rattle.hook_law.proofs.Slots.{bucket_slotted}
use Rattle.mask_table.specs.Buckets.{mask_root, bucket_of}
use Rattle.mask_table.specs.Told.{edits_by, TellsBucket, BucketTold}
use Rattle.mask_table.proofs.Limits.{IsWithin, within}
use Rattle.hook_meaning.specs.Stated.{filters_at, hook_meaning}
use Rattle.hook_meaning.specs.Blocks.{action_slotted, mask_record, filter_record, hook_codec}
use Rattle.hook_meaning.specs.Told.{action_name, stored_filter, stands_at, with_slots, filters_after}
use Rattle.hook_meaning.proofs.Reading.{first_mapped, first_maps, all_mapped}
use Rattle.hook_meaning.proofs.States.{state_is}

-- ---- a stored filter by the law's record of it
names_stored : (names : List ActionName) → map action_name (map action_slotted names) ≡ names
names_stored [] = refl
names_stored (name ∷ names) = ap (λ (z : List ActionName). name ∷ z) (names_stored names)

filters_stored : (fs : List StoredFilter) → map stored_filter (map filter_record fs) ≡ fs
filters_stored [] = refl
filters_stored (f ∷ fs) = let names = names_stored f.actions in let rest = filters_stored fs in
    λ t. record { handle = f.handle; key = f.key; actions = names t } ∷ rest t

-- ---- the buckets of filters with slots
in_bucket : (h : List (Commit Edit)) (size bucket : ℕ) (fs : List StatedFilter)
    → bucket_of size bucket (map (with_slots h) fs) ≡ map (with_slots h) (chains.bucket_of hash_of size bucket fs)
in_bucket h size bucket [] = refl
in_bucket h size bucket (f ∷ fs) = at (hash_of f.key % size == bucket) (in_bucket h size bucket fs)
  where
    at : (b : Bool) → bucket_of size bucket (map (with_slots h) fs) ≡ map (with_slots h) (chains.bucket_of hash_of size bucket fs)
        → bucket_of size bucket (map (with_slots h) fs) ++ (if b then with_slots h f ∷ [] else [])
        ≡ map (with_slots h) (chains.bucket_of hash_of size bucket fs ++ (if b then f ∷ [] else []))
    at true e = ap (λ z. z ++ with_slots h f ∷ []) e ∙ sym (map-append (with_slots h) (chains.bucket_of hash_of size bucket fs) (f ∷ []))
    at false e = ap (λ z. z ++ []) e ∙ sym (map-append (with_slots h) (chains.bucket_of hash_of size bucket fs) [])

-- ---- the row of a bucket
row_there : (mask : StoredMask) (bucket : ℕ) → IsWithin mask → bucket < mask.size
    → (slice_get mask.rows (bucket / 16) ≡ Some (slice_index mask.rows (bucket / 16))) × (slice_index mask.rows (bucket / 16) < ROWS)
row_there mask bucket is less = let rows = is.rows in let inside : bucket / 16 < length mask.rows = omega arith in
    (slice_get-get_or mask.rows (bucket / 16) 0 inside, is.small (bucket / 16) 0 inside)

-- ---- a bucket that stood, with its root at the end
record StoodBucket (h : List (Commit Edit)) (n : ℕ) (q : Region) (bucket row : ℕ) : Type 0 where
  pub at : ℕ
  pub late : n ≤ at
  pub made : at ≤ length h
  pub row_at : IsRowAt hook_codec (take at h) q bucket row
  pub same : root_of h (places.bucket_root row (places.place_of bucket)) ≡ root_of (take at h) (places.bucket_root row (places.place_of bucket))

bucket_stood : (h : List (Commit Edit)) (b n : ℕ) (q : Region) (bucket row : ℕ) → Keeps hook_meaning hook_codec h b → b ≤ n → n ≤ length h
    → IsRowAt hook_codec (take n h) q bucket row → StoodBucket h n q bucket row
bucket_stood h b n q bucket row kept low high at =
    let o = last_at_end hook_meaning hook_codec h b n (places.bucket_root row (places.place_of bucket)) (Bucket q bucket) kept low high (row, at, refl) in
    let s = o.3 in let e = s.2 in let same : s.0 ≡ row = omega arith in
    record { at = o.0; late = o.1; made = o.2; row_at = subst (IsRowAt hook_codec (take o.0 h) q bucket) same s.1; same = o.4 }

bucket_tells : (h : List (Commit Edit)) (b n : ℕ) (q : Region) (bucket row : ℕ) → Keeps hook_meaning hook_codec h b → b ≤ n → (o : StoodBucket h n q bucket row)
    → Tells hook_meaning hook_codec (edits_of h) (Bucket q bucket) (root_of h (places.bucket_root row (places.place_of bucket))) (edits_by h o.at)
bucket_tells h b n q bucket row kept low o = let late = o.late in
    tells_all hook_meaning hook_codec h o.at (Bucket q bucket) (root_of h (places.bucket_root row (places.place_of bucket)))
    (subst (λ (z : Named). Tells hook_meaning hook_codec (edits_of (take o.at h)) (Bucket q bucket) z (edits_by h o.at)) (sym o.same)
    ((kept.present o.at (omega arith) o.made).tells (places.bucket_root row (places.place_of bucket)) (Bucket q bucket) (row, o.row_at, refl)))

-- what its chain reads as has the slots that the commits tell
filters_there : (h : List (Commit Edit)) (b n : ℕ) (q : Region) (bucket row k : ℕ) (fs : List FilterRecord) → Keeps hook_meaning hook_codec h b → b ≤ n → StoodBucket h n q bucket row
    → read_all hook_codec.filter (root_of h (places.bucket_root row (places.place_of bucket))).chain ≡ Some fs
    → map stated_filter fs ≡ chains.bucket_of hash_of q.size bucket (filters_at (law.state_at hook_meaning (edits_of h) k) q.mask)
    → map stored_filter fs ≡ bucket_of q.size bucket (filters_after h k q.mask)
filters_there h b n q bucket row k fs kept low o read are = let late = o.late in
    let now = filters_at (law.state_at hook_meaning (edits_of h) k) q.mask in let there = chains.bucket_of hash_of q.size bucket now in
    let is = bucket_slotted hook_meaning hook_codec h b o.at (places.bucket_root row (places.place_of bucket)) q bucket fs now kept (omega arith) o.made (row, o.row_at, refl)
    (subst (λ (z : Named). read_all hook_codec.filter z.chain ≡ Some fs) o.same read) are in
    ap (map stored_filter) is ∙ (map-map stored_filter (slotted hook_codec h) there ∙ (sym (in_bucket h q.size bucket now)
    ∙ ap (λ (s : State). bucket_of q.size bucket (map (with_slots h) (filters_at s q.mask))) (state_is (edits_of h) k)))

stored_bucket : (h : List (Commit Edit)) (b n : ℕ) (q : Region) (bucket row : ℕ) → Keeps hook_meaning hook_codec h b → b ≤ n → (o : StoodBucket h n q bucket row)
    → TellsBucket (λ k. filters_after h k q.mask) q.size bucket (root_of h (places.bucket_root row (places.place_of bucket))) (edits_by h o.at)
stored_bucket h b n q bucket row kept low o =
    let named = root_of h (places.bucket_root row (places.place_of bucket)) in let t = bucket_tells h b n q bucket row kept low o in
    let first = t.reads named.stamp (le_refl named.stamp) t.early in
    let stored = all_mapped filter_record filter_in named.chain first.filters first.read in record {
      there = stored.0;
      read = stored.1;
      early = t.early;
      are = λ k since until. let now = t.reads k since until in
          let same : now.filters ≡ map filter_record stored.0 = some_is now.filters first.filters (sym now.read ∙ first.read) ∙ sym stored.2 in
          sym (filters_stored stored.0) ∙ (ap (map stored_filter) (sym same) ∙ filters_there h b n q bucket row k now.filters kept low o now.read now.are);
    }

pub bucket_told : (h : List (Commit Edit)) (b n slot serial bucket : ℕ) (mask : StoredMask) → Keeps hook_meaning hook_codec h b → b ≤ n → n ≤ length h
    → stands_at (take n h) slot serial → read_first mask_of_words (root_of (take n h) (mask_root slot)).chain ≡ Some mask → bucket < mask.size
    → BucketTold stands_at (λ k. filters_after h k serial) h n slot serial bucket mask
bucket_told h b n slot serial bucket mask kept low high at read less =
    let named = root_of (take n h) (mask_root slot) in let q = region_of slot serial named.stamp (mask_record mask) in
    let row = slice_index mask.rows (bucket / 16) in let there = row_there mask bucket (within named.chain mask read) less in
    let o = bucket_stood h b n q bucket row kept low high record {
      mask = mask_record mask;
      at_mask = at;
      read = first_maps mask_record mask_of_words named.chain mask read;
      stamped = refl;
      sized = refl;
      inside = less;
      there = there.0;
      small = there.1;
    } in
    let later = root_of (take o.at h) (mask_root slot) in
    let record_there = first_mapped mask_record mask_of_words later.chain o.row_at.mask o.row_at.read in record {
      at = o.at;
      late = o.late;
      made = o.made;
      there = o.row_at.at_mask;
      stamp = o.row_at.stamped;
      mask_there = record_there.0;
      read = record_there.1;
      size = ap (λ (z : MaskRecord). z.size) record_there.2 ∙ o.row_at.sized;
      tells = stored_bucket h b n q bucket row kept low o;
    }
