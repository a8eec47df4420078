-- What is asked of tables and masks, and what the calls make of them (this project's own).
use Rattle.std.specs.Prelude.{◌≡◌, ℕ, zero, suc, ◌+◌, length, ◌==◌, ◌&&◌, ◌||◌, nat_lt, Bool, true, false}
use Rattle.std.specs.Prelude.{List, [], ◌∷◌, ◌++◌, if◌then◌else◌, ◌<◌, ◌≤◌}
use Rattle.std.specs.List.{list_any}
use Rattle.std.specs.Str.{bytes_eq}
use Rattle.filter_index.specs.declared.filter.Filter.{Filter}
use Rattle.filter_index.specs.Listed.{has_handle, has_key, without, with_actions}
use Rattle.filter_tables.specs.Plain.{PlainMask, PlainTable}
use Rattle.filter_tables.specs.Places.{change_at}

-- the mask has those words
abbrev pub has_words : List ℕ → PlainMask → Bool
has_words words m = bytes_eq m.mask words

-- a filter of the mask has that handle, or that key
abbrev pub has_handle_in : ℕ → PlainMask → Bool
has_handle_in handle m = list_any (has_handle handle) m.filters

abbrev pub has_key_in : List ℕ → PlainMask → Bool
has_key_in key m = list_any (has_key key) m.filters

-- a filter of the masks has that handle
abbrev pub any_handle : ℕ → List PlainMask → Bool
any_handle handle masks = list_any (has_handle_in handle) masks

abbrev pub is_none_left : {X : Type 0} → List X → Bool
is_none_left [] = true
is_none_left (x ∷ xs) = false

-- ---- masks
-- a mask with its first filter
abbrev pub new_mask : ℕ → List ℕ → Filter → PlainMask
new_mask serial words filter = record { serial = serial; mask = words; filters = filter ∷ [] }

-- a filter more behind those of the mask
abbrev pub more_filter : Filter → PlainMask → PlainMask
more_filter filter m = record m { filters = m.filters ++ (filter ∷ []) }

-- the mask without the filter of that handle
abbrev pub less_filter : ℕ → PlainMask → PlainMask
less_filter handle m = record m { filters = without handle m.filters }

-- the mask, where the filter of that handle has other actions
abbrev pub other_actions : ℕ → List ℕ → PlainMask → PlainMask
other_actions handle actions m = record m { filters = with_actions handle actions m.filters }

-- the masks without the one at that place, if no filter is left in it
abbrev pub swept : ℕ → List PlainMask → List PlainMask
swept place [] = []
swept zero (m ∷ masks) = if is_none_left m.filters then masks else m ∷ masks
swept (suc place) (m ∷ masks) = m ∷ swept place masks

-- the filter of that handle is taken out of the mask at that place
abbrev pub taken : ℕ → ℕ → List PlainMask → List PlainMask
taken place handle masks = swept place (change_at place (less_filter handle) masks)

-- The filter of a handle leaves the mask at one place, and another of the same handle goes behind those of
-- the mask at a place, which may be the same; the mask that it left goes if no filter is left in it.
abbrev pub moved : ℕ → ℕ → Filter → List PlainMask → List PlainMask
moved from to filter masks =
    swept from (change_at to (more_filter filter) (change_at from (less_filter filter.handle) masks))

-- The filter of a handle leaves the mask at a place for a new mask behind the others.
abbrev pub moved_out : ℕ → ℕ → List ℕ → Filter → List PlainMask → List PlainMask
moved_out from serial words filter masks =
    swept from (change_at from (less_filter filter.handle) masks ++ (new_mask serial words filter ∷ []))

-- how many filters the masks have
abbrev pub count_of : List PlainMask → ℕ
count_of [] = 0
count_of (m ∷ masks) = length m.filters + count_of masks

-- the lowest handle from 1 that no filter of the masks has
pub record IsLowestFree (masks : List PlainMask) (handle : ℕ) : Type 0 where
  pub from_one : 1 ≤ handle
  pub free : any_handle handle masks ≡ false
  pub lowest : (lower : ℕ) → 1 ≤ lower → lower < handle → any_handle lower masks ≡ true

-- ---- tables
-- the table has that chain and pref
abbrev pub is_table : ℕ → ℕ → PlainTable → Bool
is_table chain pref table = table.chain == chain && table.pref == pref

-- a table stands before one of a later chain, or of a later pref in the same chain
abbrev pub comes_before : PlainTable → PlainTable → Bool
comes_before t u = nat_lt t.chain u.chain || (t.chain == u.chain && nat_lt t.pref u.pref)

-- a change of the masks of a table
abbrev pub in_masks : (List PlainMask → List PlainMask) → PlainTable → PlainTable
in_masks change table = record table { masks = change table.masks }

-- the tables without the one at that place, if no mask is left in it
abbrev pub cleared : ℕ → List PlainTable → List PlainTable
cleared place [] = []
cleared zero (t ∷ tables) = if is_none_left t.masks then tables else t ∷ tables
cleared (suc place) (t ∷ tables) = t ∷ cleared place tables

-- the filter of that handle is taken out of a mask of a table, with the mask and the table if nothing is left
-- in them
abbrev pub removed : ℕ → ℕ → ℕ → List PlainTable → List PlainTable
removed table mask handle tables = cleared table (change_at table (in_masks (taken mask handle)) tables)

-- a table more, before those that come behind it
abbrev pub with_table : PlainTable → List PlainTable → List PlainTable
with_table table [] = table ∷ []
with_table table (t ∷ tables) = if comes_before t table then t ∷ with_table table tables
    else table ∷ (t ∷ tables)
