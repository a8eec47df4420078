-- Masks that are looked at in turn.
use Rattle.std.proofs.Common.{◌≡◌, ◌∙◌, ℕ, suc, ◌+◌, ◌<◌, ◌≤◌, List, [], ◌∷◌, length, get_or, drop, Option, Some, None, sym, ap, arith}
use Rattle.std.specs.Prelude.{map}
use Rattle.std.proofs.lemmas.List.{drop_more, drop_all}
use Rattle.filter_index.specs.declared.filter.Filter.{Filter}
use Rattle.filter_tables.specs.declared.mask_list.MaskList.{MaskList}
use Rattle.filter_tables.specs.Plain.{PlainMask}
use Rattle.filter_tables.specs.SeenMask.{plain_mask}
use Rattle.plain_walk.specs.Lookups.{met_in, or_else, first_met, up_to, looked_at}

-- the masks from a place on
abbrev pub masks_from : ℕ → List MaskList → List PlainMask
masks_from place masks = map plain_mask (drop place masks)

-- none of the masks before the place has a filter
pub record HasMissed (words : List ℕ) (masks : List MaskList) (place : ℕ) : Type 0 where
  pub found : first_met words (map plain_mask masks) ≡ first_met words (masks_from place masks)
  pub looked : looked_at words (map plain_mask masks) ≡ place + looked_at words (masks_from place masks)

masks_more : (masks : List MaskList) (place : ℕ) (list : MaskList) → place < length masks → list ≡ get_or masks place list →
    masks_from place masks ≡ plain_mask list ∷ masks_from (place + 1) masks
masks_more masks place list within is =
    ap (map plain_mask) (drop_more masks place list within) ∙ ap (λ (m : MaskList). plain_mask m ∷ masks_from (place + 1) masks) (sym is)

module _ (words : List ℕ) (masks : List MaskList) (place : ℕ) (list : MaskList) (within : place < length masks) (is : list ≡ get_or masks place list) (missed : HasMissed words masks place) where
  found_here : first_met words (map plain_mask masks) ≡ or_else (met_in words (plain_mask list)) (first_met words (masks_from (place + 1) masks))
  found_here = missed.found ∙ ap (first_met words) (masks_more masks place list within is)

  looked_here : looked_at words (map plain_mask masks) ≡ place + up_to (met_in words (plain_mask list)) (looked_at words (masks_from (place + 1) masks))
  looked_here = missed.looked ∙ ap (λ ms. place + looked_at words ms) (masks_more masks place list within is)

  pub more_missed : met_in words (plain_mask list) ≡ None → HasMissed words masks (place + 1)
  more_missed none =
      let rest : ℕ = looked_at words (masks_from (place + 1) masks) in
      let looked : looked_at words (map plain_mask masks) ≡ place + suc rest = looked_here ∙ ap (λ o. place + up_to o rest) none in
      record {
        found = found_here ∙ ap (λ o. or_else o (first_met words (masks_from (place + 1) masks))) none;
        looked = omega (arith, looked);
      }

  pub met_here : (filter : Filter) → met_in words (plain_mask list) ≡ Some filter →
      (looked_at words (map plain_mask masks) ≡ place + 1) × (first_met words (map plain_mask masks) ≡ Some filter)
  met_here filter met = (
    looked_here ∙ ap (λ o. place + up_to o (looked_at words (masks_from (place + 1) masks))) met,
    found_here ∙ ap (λ o. or_else o (first_met words (masks_from (place + 1) masks))) met,
  )

  some_up : (found : Option Filter) (more : ℕ) → 1 ≤ up_to found more
  some_up None more = omega arith
  some_up (Some filter) more = omega arith

  pub one_short : place < looked_at words (map plain_mask masks)
  one_short =
      let some = some_up (met_in words (plain_mask list)) (looked_at words (masks_from (place + 1) masks)) in
      omega (arith, looked_here, some)

pub all_missed : (words : List ℕ) (masks : List MaskList) (place : ℕ) → length masks ≤ place → HasMissed words masks place →
    (looked_at words (map plain_mask masks) ≡ place) × (first_met words (map plain_mask masks) ≡ None)
all_missed words masks place all missed =
    let none : masks_from place masks ≡ [] = ap (map plain_mask) (drop_all place masks all) in
    let looked : looked_at words (map plain_mask masks) ≡ place + 0 = missed.looked ∙ ap (λ ms. place + looked_at words ms) none in
    (omega (arith, looked), missed.found ∙ ap (first_met words) none)
