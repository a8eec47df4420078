-- What is left of slots and of masks, from a place on.
use Rattle.std.proofs.Common.{◌≡◌, ℕ, ◌+◌, ◌<◌, ◌≤◌, List, [], ◌∷◌, ◌++◌, length, map, drop, get_or, Option, Some, None, sym, ◌∙◌, ap}
use Rattle.std.proofs.lemmas.List.{drop_more, drop_all}
use Rattle.filter_index.specs.declared.filter.Filter.{Filter}
use Rattle.filter_index.specs.Listed.{those_there}
use Rattle.filter_tables.specs.declared.mask_list.MaskList.{MaskList}
use Rattle.filter_tables.specs.SeenMask.{plain_mask}
use Rattle.filter_lists.specs.OfRemoving.Leaving.{filters_in}

pub slot_there : (slots : List (Option Filter)) (i : ℕ) (slot : Option Filter) (f : Filter) → i < length slots → slot ≡ get_or slots i slot → slot ≡ Some f →
    those_there (drop i slots) ≡ (f ∷ []) ++ those_there (drop (i + 1) slots)
slot_there slots i slot f within is some = ap those_there (drop_more slots i slot within ∙ ap (λ o. o ∷ drop (i + 1) slots) (sym is ∙ some))

pub slot_empty : (slots : List (Option Filter)) (i : ℕ) (slot : Option Filter) → i < length slots → slot ≡ get_or slots i slot → slot ≡ None →
    those_there (drop i slots) ≡ those_there (drop (i + 1) slots)
slot_empty slots i slot within is none = ap those_there (drop_more slots i slot within ∙ ap (λ o. o ∷ drop (i + 1) slots) (sym is ∙ none))

pub slots_over : (slots : List (Option Filter)) (i : ℕ) → length slots ≤ i → those_there (drop i slots) ≡ []
slots_over slots i over = ap those_there (drop_all i slots over)

pub mask_there : (masks : List MaskList) (i : ℕ) (mask : MaskList) (fs : List Filter) → i < length masks → mask ≡ get_or masks i mask → fs ≡ mask.filters.filters →
    filters_in (map plain_mask (drop i masks)) ≡ fs ++ filters_in (map plain_mask (drop (i + 1) masks))
mask_there masks i mask fs within is own =
    ap (λ ms. filters_in (map plain_mask ms)) (drop_more masks i mask within ∙ ap (λ m. m ∷ drop (i + 1) masks) (sym is))
    ∙ ap (λ gs. gs ++ filters_in (map plain_mask (drop (i + 1) masks))) (sym own)

pub masks_over : (masks : List MaskList) (i : ℕ) → length masks ≤ i → filters_in (map plain_mask (drop i masks)) ≡ []
masks_over masks i over = ap (λ ms. filters_in (map plain_mask ms)) (drop_all i masks over)
