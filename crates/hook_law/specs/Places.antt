-- Which root is for what. Roots, hooks, slots, rows and buckets are numbered from 0 (this project's own).
use Rattle.std.specs.Prelude.{ℕ, ◌+◌, ◌*◌, ◌/◌, ◌%◌}
use Rattle.store_history.specs.declared.places.TheConstants.{MASK_SLOTS, ACTION_SLOTS, ROWS, ROW_BUCKETS, MARKER_ROOT, HEAD_ROOTS, MASK_ROOTS, ACTION_ROOTS, BUCKET_ROOTS}

abbrev pub hooks : ℕ
hooks = 2

-- the masks and the actions that have a slot at a time
abbrev pub mask_slots : ℕ
mask_slots = MASK_SLOTS

abbrev pub action_slots : ℕ
action_slots = ACTION_SLOTS

-- the rows, each of sixteen buckets
abbrev pub rows : ℕ
rows = ROWS

abbrev pub row_buckets : ℕ
row_buckets = ROW_BUCKETS

-- the root of the edits that no walk can see
abbrev pub marker_root : ℕ
marker_root = MARKER_ROOT

abbrev pub head_root : ℕ → ℕ
head_root hook = HEAD_ROOTS + hook

abbrev pub mask_root : ℕ → ℕ
mask_root slot = MASK_ROOTS + slot

abbrev pub action_root : ℕ → ℕ
action_root slot = ACTION_ROOTS + slot

-- the root of the bucket at a place of a row
abbrev pub bucket_root : ℕ → ℕ → ℕ
bucket_root row place = BUCKET_ROOTS + ROW_BUCKETS * row + place

-- a mask's bucket k is in the row at place k / 16 of its list of rows, and there at place k % 16
abbrev pub row_of : ℕ → ℕ
row_of k = k / ROW_BUCKETS

abbrev pub place_of : ℕ → ℕ
place_of k = k % ROW_BUCKETS
