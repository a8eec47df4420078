-- The filter that some masks have for a frame (this project's own).
use Rattle.std.specs.Prelude.{◌≡◌, ℕ, suc, ◌+◌, ◌<◌, List, [], ◌∷◌, find, Option, Some, None}
use Rattle.flow_mask.specs.Masks.{each_and}
use Rattle.filter_index.specs.declared.filter.Filter.{Filter}
use Rattle.filter_index.specs.Listed.{has_key}
use Rattle.filter_tables.specs.Plain.{PlainMask}
use Rattle.plain_walk.specs.declared.lookups.LookUp.{LookUp}
use Rattle.plain_walk.specs.declared.lookups.LookUp.TheVariants as looks

-- the filter of a mask whose key is the frame's under the mask
abbrev pub met_in : List ℕ → PlainMask → Option Filter
met_in words mask = find (has_key (each_and words mask.mask)) mask.filters

-- one, or else another
abbrev pub or_else : Option Filter → Option Filter → Option Filter
or_else (Some filter) other = Some filter
or_else None other = other

-- of the masks in order, the first that has one
abbrev pub first_met : List ℕ → List PlainMask → Option Filter
first_met words [] = None
first_met words (mask ∷ masks) = or_else (met_in words mask) (first_met words masks)

-- how many are looked at: those up to the first that has one, or all
abbrev pub up_to : Option Filter → ℕ → ℕ
up_to (Some filter) more = 1
up_to None more = suc more

abbrev pub looked_at : List ℕ → List PlainMask → ℕ
looked_at words [] = 0
looked_at words (mask ∷ masks) = up_to (met_in words mask) (looked_at words masks)

-- what is found with so many visits, and how many are left then
abbrev pub IsLookedUp : List ℕ → List PlainMask → ℕ → LookUp → ℕ → Type 0
IsLookedUp words masks before (looks.Met filter) after =
    (looked_at words masks + after ≡ before) × (first_met words masks ≡ Some filter.now)
IsLookedUp words masks before looks.Missed after =
    (looked_at words masks + after ≡ before) × (first_met words masks ≡ None)
IsLookedUp words masks before looks.Spent after = before < looked_at words masks
