-- A small hook: one edit brings one table with one mask and one filter (this project's own).
use Rattle.std.specs.Prelude.{ℕ, zero, suc, ◌+◌, ◌==◌, ◌&&◌, List, [], ◌∷◌, Option, Some, None, if◌then◌else◌}
use Rattle.store_history.specs.declared.history.Commit.{Commit}
use Rattle.hook_law.specs.Places.{head_root, mask_root, bucket_root}
use Rattle.hook_law.specs.Records.{MaskRecord, FilterRecord, StatedFilter, Codec}
use Rattle.hook_law.specs.Meaning.{Meaning}
use Rattle.hook_law.specs.Standing.{Region}

abbrev pub small_filter : StatedFilter
small_filter = record { handle = 1; key = []; actions = [] }

abbrev pub filter_read : FilterRecord
filter_read = record { handle = 1; key = []; actions = [] }

-- the states are 0 and then, after the edit, 1
abbrev pub small_meaning : Meaning ℕ ℕ ℕ ℕ
small_meaning = record {
  start = 0;
  step = λ s y. s + 1;
  Lawful = λ ys. Unit {0};
  heads = λ s hook. if (s == 1) && (hook == 0) then record { serial = 1; names = 0; masks = 1 ∷ [] } ∷ []
      else [];
  words = λ s m. [];
  filters = λ s m. if (s == 1) && (m == 1) then small_filter ∷ [] else [];
  params = λ s a. None;
  hash = λ key. 0;
  size_for = λ count. 16;
}

-- a block's first word says what it is
abbrev pub small_read : {A : Type 0} → ℕ → A → List ℕ → Option A
small_read kind a [] = None
small_read kind a (w ∷ ws) = if w == kind then Some a else None

abbrev pub small_mask : MaskRecord
small_mask = record { serial = 1; size = 16; words = []; rows = 0 ∷ [] }

abbrev pub small_codec : Codec ℕ ℕ
small_codec = record {
  table = small_read 3 (record { serial = 1; names = 0; masks = record { serial = 1; slot = 0 } ∷ [] });
  mask = small_read 2 small_mask;
  filter = small_read 1 filter_read;
  action = λ ws. None;
}

-- the commit of the bucket k, and those of so many buckets from one on
abbrev pub bucket_commit : ℕ → Commit ℕ
bucket_commit k = record {
  root = bucket_root 0 k;
  named = record { chain = if 0 == k then record { block = 0; words = 1 ∷ [] } ∷ [] else []; stamp = 1 };
  edit = None;
}

abbrev pub bucket_commits : ℕ → ℕ → List (Commit ℕ)
bucket_commits k zero = []
bucket_commits k (suc count) = bucket_commit k ∷ bucket_commits (k + 1) count

abbrev pub mask_commit : Commit ℕ
mask_commit = record {
  root = mask_root 0;
  named = record { chain = record { block = 1; words = 2 ∷ [] } ∷ []; stamp = 1 };
  edit = None;
}

-- the mask and its buckets are put, and then the head names the mask
abbrev pub small_prepared : List (Commit ℕ)
small_prepared = mask_commit ∷ bucket_commits 0 16

abbrev pub small_head : Commit ℕ
small_head = record {
  root = head_root 0;
  named = record { chain = record { block = 2; words = 3 ∷ [] } ∷ []; stamp = 1 };
  edit = Some (1, 0);
}

abbrev pub small_region : Region
small_region = record { slot = 0; mask = 1; stamp = 1; size = 16 }
