-- The buckets of a mask, and what a search of filters answers (this project's own).
use Rattle.store_history.specs.declared.places.TheConstants.{BUCKET_ROOTS, ROW_BUCKETS, MASK_ROOTS}
use Rattle.std.specs.Prelude.{◌≡◌, ◌≢◌, ℕ, ◌+◌, ◌*◌, ◌/◌, ◌%◌, ◌==◌, Bool, true, false, List, [], ◌∷◌, ◌++◌}
use Rattle.std.specs.Prelude.{slice_get, slice_index, Some, if◌then◌else◌}
use Rattle.flow_mask.specs.Hashes.{hash_of}
use Rattle.flow_mask.specs.Masks.{each_and}
use Rattle.visit_room.specs.declared.names.ActionName.{ActionName}
use Rattle.block_codec.specs.declared.filter.StoredFilter.{StoredFilter}
use Rattle.block_codec.specs.declared.mask.StoredMask.{StoredMask}

abbrev pub IsAmong : {A : Type 0} → A → List A → Type 0
IsAmong {A = A} x xs = (place : ℕ) × (slice_get xs place ≡ Some x)

-- the roots of the hook's store: each mask has one for its record, at its slot, and one for each of its
-- buckets
abbrev pub mask_root : ℕ → ℕ
mask_root slot = MASK_ROOTS + slot

-- sixteen buckets of a mask are a row
abbrev pub bucket_root : StoredMask → ℕ → ℕ
bucket_root mask bucket =
    BUCKET_ROOTS + ROW_BUCKETS * slice_index mask.rows (bucket / ROW_BUCKETS) + bucket % ROW_BUCKETS

-- the bucket of a key, of so many
abbrev pub bucket_for : ℕ → List ℕ → ℕ
bucket_for size key = hash_of key % size

-- the root of the bucket of a key, which is taken under the mask
abbrev pub key_root : StoredMask → List ℕ → ℕ
key_root mask key = bucket_root mask (bucket_for mask.size (each_and key mask.mask.words))

-- the filters of a bucket, the latest of the mask's first
abbrev pub bucket_of : ℕ → ℕ → List StoredFilter → List StoredFilter
bucket_of size bucket [] = []
bucket_of size bucket (f ∷ fs) =
    bucket_of size bucket fs ++ (if bucket_for size f.key.words == bucket then f ∷ [] else [])

-- the actions of a filter with the key; or none has it
abbrev pub IsAnswer : List StoredFilter → List ℕ → Bool → List ActionName → Type 0
IsAnswer fs key true actions = (f : StoredFilter) × IsAmong f fs × (f.key.words ≡ key) × (actions ≡ f.actions)
IsAnswer fs key false actions = (f : StoredFilter) → IsAmong f fs → f.key.words ≢ key
