-- One table changed in its place, or taken out.
use Rattle.std.proofs.Common.{◌≡◌, ℕ, zero, suc, ◌<◌, ◌==◌, true, false, List, [], ◌∷◌, length, get_or, set, Some, refl, sym, ap, ◌∙◌, subst, arith}
use Rattle.std.specs.Prelude.{map}
use Rattle.std.specs.List.{remove}
use Rattle.std.proofs.lemmas.List.{length-map}
use Rattle.filter_tables.specs.Plain.{PlainMask, PlainTable}
use Rattle.filter_tables.specs.Places.{change_at, item_at}
use Rattle.filter_tables.specs.Room.{AreRising, Spare, spare_at, masks_spare, filters_spare}
use Rattle.filter_tables.specs.Changes.{in_masks, is_none_left, cleared}
use Rattle.filter_tables.proofs.Places.{map_changed, map_kept, item_read}
use Rattle.filter_tables.proofs.Swept.{none_left_is}
use Rattle.filter_tables.proofs.TableOrder.{rising_changed}

-- ---- a list as contracts see it
pub within_items : {X Y : Type 0} (f : X → Y) (xs : List X) (now : List Y) (at : ℕ) → map f xs ≡ now → at < length now → at < length xs
within_items f xs now at list within = omega (arith, within, ap length list, length-map xs f)

pub item_here : {X Y : Type 0} (f : X → Y) (xs : List X) (now : List Y) (at : ℕ) (was : X) → map f xs ≡ now → at < length now → was ≡ get_or xs at was →
    item_at now at ≡ Some (f was)
item_here f xs now at was list within read =
    ap (λ ts. item_at ts at) (sym list) ∙ item_read f xs at was (within_items f xs now at list within) read

pub changed_here : {X Y : Type 0} (f : X → Y) (change : Y → Y) (xs : List X) (now : List Y) (at : ℕ) (was is : X) → map f xs ≡ now → at < length now →
    was ≡ get_or xs at was → f is ≡ change (f was) → map f (set xs at is) ≡ change_at at change now
changed_here f change xs now at was is list within read same =
    map_changed f change xs at was is (within_items f xs now at list within) read same ∙ ap (change_at at change) list

pub rising_set : {X : Type 0} (f : X → PlainTable) (change : List PlainMask → List PlainMask) (xs : List X) (now : List PlainTable) (at : ℕ) (was is : X) →
    AreRising (map f xs) → map f xs ≡ now → at < length now → was ≡ get_or xs at was → f is ≡ in_masks change (f was) → AreRising (map f (set xs at is))
rising_set f change xs now at was is rising list within read same =
    subst AreRising (sym (map_changed f (in_masks change) xs at was is (within_items f xs now at list within) read same))
    (rising_changed change at (map f xs) rising)

pub rising_kept : {X : Type 0} (f : X → PlainTable) (xs : List X) (at : ℕ) (was is : X) → AreRising (map f xs) → was ≡ get_or xs at was → f is ≡ f was →
    AreRising (map f (set xs at is))
rising_kept f xs at was is rising read same = subst AreRising (sym (map_kept f xs at was is read same)) rising

-- ---- the room of a table
pub masks_here : {X : Type 0} (f : X → Spare) (xs : List X) (at : ℕ) (was : X) → at < length xs → was ≡ get_or xs at was → masks_spare (map f xs) at ≡ (f was).masks
masks_here f [] at was within read = absurd (omega arith)
masks_here f (x ∷ xs) zero was within read = ap (λ z. (f z).masks) (sym read)
masks_here f (x ∷ xs) (suc at) was within read = masks_here f xs at was (omega arith) read

pub filters_here : {X : Type 0} (f : X → Spare) (xs : List X) (at mask : ℕ) (was : X) → at < length xs → was ≡ get_or xs at was →
    filters_spare (map f xs) at mask ≡ spare_at (f was).filters mask
filters_here f [] at mask was within read = absurd (omega arith)
filters_here f (x ∷ xs) zero mask was within read = ap (λ z. spare_at (f z).filters mask) (sym read)
filters_here f (x ∷ xs) (suc at) mask was within read = filters_here f xs at mask was (omega arith) read

pub masks_set : {X : Type 0} (f : X → Spare) (xs : List X) (at : ℕ) (is : X) → at < length xs → masks_spare (map f (set xs at is)) at ≡ (f is).masks
masks_set f [] at is within = absurd (omega arith)
masks_set f (x ∷ xs) zero is within = refl
masks_set f (x ∷ xs) (suc at) is within = masks_set f xs at is (omega arith)

pub filters_set : {X : Type 0} (f : X → Spare) (xs : List X) (at mask : ℕ) (is : X) → at < length xs →
    filters_spare (map f (set xs at is)) at mask ≡ spare_at (f is).filters mask
filters_set f [] at mask is within = absurd (omega arith)
filters_set f (x ∷ xs) zero mask is within = refl
filters_set f (x ∷ xs) (suc at) mask is within = filters_set f xs at mask is (omega arith)

-- ---- a table that is left empty
pub cleared_gone : {X : Type 0} (f : X → PlainTable) (xs : List X) (at : ℕ) (was : X) → at < length xs → was ≡ get_or xs at was →
    (length (f was).masks == 0) ≡ true → map f (remove xs at) ≡ cleared at (map f xs)
cleared_gone f [] at was within read none = absurd (omega arith)
cleared_gone f (x ∷ xs) zero was within read none =
    let left : is_none_left (f x).masks ≡ true = none_left_is (f x).masks true (ap (λ z. length (f z).masks == 0) (sym read) ∙ none) in
    rw left refl
cleared_gone f (x ∷ xs) (suc at) was within read none = ap (λ rest. f x ∷ rest) (cleared_gone f xs at was (omega arith) read none)

pub cleared_kept : {X : Type 0} (f : X → PlainTable) (xs : List X) (at : ℕ) (was : X) → at < length xs → was ≡ get_or xs at was →
    (length (f was).masks == 0) ≡ false → map f xs ≡ cleared at (map f xs)
cleared_kept f [] at was within read some = absurd (omega arith)
cleared_kept f (x ∷ xs) zero was within read some =
    let left : is_none_left (f x).masks ≡ false = none_left_is (f x).masks false (ap (λ z. length (f z).masks == 0) (sym read) ∙ some) in
    rw left refl
cleared_kept f (x ∷ xs) (suc at) was within read some = ap (λ rest. f x ∷ rest) (cleared_kept f xs at was (omega arith) read some)
