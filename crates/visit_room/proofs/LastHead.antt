-- The last of some tables, by its place.
use Rattle.std.proofs.Common.{◌≡◌, ◌∙◌, ℕ, zero, suc, ◌<◌, List, [], ◌∷◌, ◌++◌, length, get_or, slice_set, refl, sym, ap, subst, arith}
use Rattle.visit_room.specs.declared.names.MaskName.{MaskName}
use Rattle.visit_room.specs.declared.table_head.TableHead.{TableHead}
use Rattle.visit_room.specs.Heads.{IsBelow, last_masks, with_mask_behind}

pub last_below : (most : ℕ) (heads : List TableHead) (place : ℕ) (head : TableHead) → suc place ≡ length heads → head ≡ get_or heads place head →
    IsBelow most (last_masks heads) → length head.masks < most
last_below most [] place head last is below = absurd below
last_below most (first ∷ []) zero head last is below = subst (λ (h : TableHead). length h.masks < most) (sym is) below
last_below most (first ∷ []) (suc place) head last is below = absurd (omega arith)
last_below most (first ∷ next ∷ heads) zero head last is below = absurd (omega arith)
last_below most (first ∷ next ∷ heads) (suc place) head last is below = last_below most (next ∷ heads) place head (omega arith) is below

abbrev with_masks : TableHead → List MaskName → TableHead
with_masks head masks = record head { masks = masks }

pub put_behind : (mask : MaskName) (heads : List TableHead) (place : ℕ) (head : TableHead) (masks : List MaskName) → suc place ≡ length heads → head ≡ get_or heads place head →
    masks ≡ head.masks ++ (mask ∷ []) → slice_set heads place (with_masks head masks) ≡ with_mask_behind mask heads
put_behind mask [] place head masks last is put = refl
put_behind mask (first ∷ []) zero head masks last is put =
    ap (λ ms. with_masks head ms ∷ []) put ∙ ap (λ (h : TableHead). with_masks h (h.masks ++ (mask ∷ [])) ∷ []) is
put_behind mask (first ∷ []) (suc place) head masks last is put = absurd (omega arith)
put_behind mask (first ∷ next ∷ heads) zero head masks last is put = absurd (omega arith)
put_behind mask (first ∷ next ∷ heads) (suc place) head masks last is put =
    ap (λ more. first ∷ more) (put_behind mask (next ∷ heads) place head masks (omega arith) is put)
