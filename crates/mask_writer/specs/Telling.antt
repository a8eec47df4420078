-- What becomes of the order of a mask's filters as an edit is made (this project's own).
use Rattle.std.specs.Prelude.{ℕ, Bool, true, not, ◌&&◌, ltb, ◌==◌, List, [], ◌∷◌, ◌++◌, Option, Some, None}
use Rattle.std.specs.Prelude.{option_map, bytes_eq, if◌then◌else◌}
use Rattle.block_codec.specs.declared.filter.StoredFilter.{StoredFilter}
use Rattle.mask_writer.specs.Masks.{Order}

-- these filters come to be the mask's
abbrev pub begun : Option Order → List StoredFilter → ℕ → Option Order
begun before filters edit = Some (record { filters = filters; newest = edit })

-- the mask is no more
abbrev pub ended : Option Order → List StoredFilter → ℕ → Option Order
ended before filters number = None

-- filters come behind the others, where the edit is later than all that brought one of these
abbrev pub joined : Option Order → List StoredFilter → ℕ → Option Order
joined None filters edit = None
joined (Some o) filters edit =
    if ltb o.newest edit then Some (record { filters = o.filters ++ filters; newest = edit }) else None

-- no filter has the handle
abbrev pub lacks : ℕ → List StoredFilter → Bool
lacks handle [] = true
lacks handle (f ∷ fs) = not (f.handle == handle) && lacks handle fs

-- others stand in the place of the filter with a handle, where it meets the test and no other has the handle
abbrev pub rewritten : (StoredFilter → Bool) → ℕ → List StoredFilter → List StoredFilter
    → Option (List StoredFilter)
rewritten meets handle more [] = None
rewritten meets handle more (f ∷ fs) =
    if f.handle == handle
    then (if meets f && lacks handle fs then Some (more ++ fs) else None)
    else option_map (λ gs. f ∷ gs) (rewritten meets handle more fs)

-- the order with other filters, if they are told
abbrev pub with_filters : ℕ → Option (List StoredFilter) → Option Order
with_filters newest told = option_map (λ filters. record { filters = filters; newest = newest }) told

-- the filter with a handle goes
abbrev pub without : Option Order → List StoredFilter → ℕ → Option Order
without None filters handle = None
without (Some o) filters handle = with_filters o.newest (rewritten (λ f. true) handle [] o.filters)

-- a filter takes the place of the one with its handle and key
abbrev pub exchanged : Option Order → List StoredFilter → ℕ → Option Order
exchanged (Some o) (filter ∷ none) number =
    with_filters o.newest
    (rewritten (λ f. bytes_eq f.key.words filter.key.words) filter.handle (filter ∷ []) o.filters)
exchanged before filters number = None
