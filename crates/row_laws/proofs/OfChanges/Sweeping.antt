-- Tables stay whole where a filter is taken out, since a mask or a table in which nothing is left goes with
-- it.
use Rattle.std.proofs.Common.{◌≡◌, ℕ, zero, suc, Bool, true, false, cond, ◌⊎◌, inl, inr, List, [], ◌∷◌, refl, sym, ap, subst}
use Rattle.std.proofs.lemmas.Bool.{false≢true}
use Rattle.tc_base.specs.declared.hook.Hook.{Hook}
use Rattle.filter_state.specs.Sound.{Each, EachPair}
use Rattle.filter_tables.specs.Plain.{PlainMask, PlainTable}
use Rattle.filter_tables.specs.Places.{change_at, without_at}
use Rattle.filter_tables.specs.Changes.{is_none_left, less_filter, swept, taken, cleared, removed, in_masks}
use Rattle.filter_tables.specs.Whole.{HasSome, IsFull}
use Rattle.filter_tables.specs.Rows.{BothHooks, tables_on, on_hook, BothWhole}
use Rattle.row_laws.proofs.OfChanges.Lists.{each_changed, pairs_without}
use Rattle.row_laws.proofs.OfChanges.Whole.{IsEarlier, IsLower, HasFilters, whole_changed, lower_changed, early_changed}

-- ---- all elements but the one at a place
abbrev pub EachBut : {X : Type 0} → (X → Type 0) → ℕ → List X → Type 0
EachBut P place [] = Unit {0}
EachBut P zero (x ∷ xs) = Each P xs
EachBut P (suc place) (x ∷ xs) = P x × EachBut P place xs

pub but_changed : {X : Type 0} (P : X → Type 0) (change : X → X) (place : ℕ) (xs : List X) → Each P xs → EachBut P place (change_at place change xs)
but_changed P change place [] all = tt
but_changed P change zero (x ∷ xs) all = all.1
but_changed P change (suc place) (x ∷ xs) all = (all.0, but_changed P change place xs all.1)

some_left : {X : Type 0} (xs : List X) → is_none_left xs ≡ false → HasSome xs
some_left [] some = false≢true (sym some)
some_left (x ∷ xs) some = tt

-- ---- masks
first_mask : (b : Bool) (m : PlainMask) (masks : List PlainMask) → is_none_left m.filters ≡ b → Each HasFilters masks → Each HasFilters (cond b masks (m ∷ masks))
first_mask true m masks is all = all
first_mask false m masks is all = (some_left m.filters is, all)

pub swept_full : (place : ℕ) (masks : List PlainMask) → EachBut HasFilters place masks → Each HasFilters (swept place masks)
swept_full place [] all = tt
swept_full zero (m ∷ masks) all = first_mask (is_none_left m.filters) m masks refl all
swept_full (suc place) (m ∷ masks) all = (all.0, swept_full place masks all.1)

swept_step : (b : Bool) (m : PlainMask) (masks : List PlainMask) → (cond b masks (m ∷ masks) ≡ m ∷ masks) ⊎ (cond b masks (m ∷ masks) ≡ masks)
swept_step true m masks = inr refl
swept_step false m masks = inl refl

one_more : {X : Type 0} (x : X) (ys xs zs : List X) → (ys ≡ xs) ⊎ (ys ≡ zs) → (x ∷ ys ≡ x ∷ xs) ⊎ (x ∷ ys ≡ x ∷ zs)
one_more x ys xs zs (inl same) = inl (ap (λ rest. x ∷ rest) same)
one_more x ys xs zs (inr same) = inr (ap (λ rest. x ∷ rest) same)

swept_either : (place : ℕ) (masks : List PlainMask) → (swept place masks ≡ masks) ⊎ (swept place masks ≡ without_at place masks)
swept_either place [] = inl refl
swept_either zero (m ∷ masks) = swept_step (is_none_left m.filters) m masks
swept_either (suc place) (m ∷ masks) = one_more m (swept place masks) masks (without_at place masks) (swept_either place masks)

lower_either : (place : ℕ) (masks left : List PlainMask) → (left ≡ masks) ⊎ (left ≡ without_at place masks) → EachPair IsLower masks → EachPair IsLower left
lower_either place masks left (inl same) lower = subst (EachPair IsLower) (sym same) lower
lower_either place masks left (inr same) lower = subst (EachPair IsLower) (sym same) (pairs_without IsLower place masks lower)

pub swept_lower : (place : ℕ) (masks : List PlainMask) → EachPair IsLower masks → EachPair IsLower (swept place masks)
swept_lower place masks = lower_either place masks (swept place masks) (swept_either place masks)

-- ---- tables
-- a table that may have no mask
abbrev pub IsSwept : PlainTable → Type 0
IsSwept t = Each HasFilters t.masks × EachPair IsLower t.masks

taken_swept : (at handle : ℕ) (t : PlainTable) → IsFull t → IsSwept (in_masks (taken at handle) t)
taken_swept at handle t full = (
  swept_full at (change_at at (less_filter handle) t.masks) (but_changed HasFilters (less_filter handle) at t.masks full.each),
  swept_lower at (change_at at (less_filter handle) t.masks) (lower_changed at (less_filter handle) (λ m. refl) t.masks full.rising),
)

first_table : (b : Bool) (t : PlainTable) (tables : List PlainTable) → is_none_left t.masks ≡ b → IsSwept t → Each IsFull tables → Each IsFull (cond b tables (t ∷ tables))
first_table true t tables is one all = all
first_table false t tables is one all = (record { some = some_left t.masks is; each = one.0; rising = one.1 }, all)

cleared_full : (place : ℕ) (tables : List PlainTable) → Each IsSwept tables → EachBut IsFull place tables → Each IsFull (cleared place tables)
cleared_full place [] all full = tt
cleared_full zero (t ∷ tables) all full = first_table (is_none_left t.masks) t tables refl all.0 full
cleared_full (suc place) (t ∷ tables) all full = (full.0, cleared_full place tables all.1 full.1)

cleared_step : (b : Bool) (t : PlainTable) (tables : List PlainTable) → (cond b tables (t ∷ tables) ≡ t ∷ tables) ⊎ (cond b tables (t ∷ tables) ≡ tables)
cleared_step true t tables = inr refl
cleared_step false t tables = inl refl

cleared_either : (place : ℕ) (tables : List PlainTable) → (cleared place tables ≡ tables) ⊎ (cleared place tables ≡ without_at place tables)
cleared_either place [] = inl refl
cleared_either zero (t ∷ tables) = cleared_step (is_none_left t.masks) t tables
cleared_either (suc place) (t ∷ tables) = one_more t (cleared place tables) tables (without_at place tables) (cleared_either place tables)

early_either : (place : ℕ) (tables left : List PlainTable) → (left ≡ tables) ⊎ (left ≡ without_at place tables) → EachPair IsEarlier tables → EachPair IsEarlier left
early_either place tables left (inl same) rising = subst (EachPair IsEarlier) (sym same) rising
early_either place tables left (inr same) rising = subst (EachPair IsEarlier) (sym same) (pairs_without IsEarlier place tables rising)

pub removed_whole : (both : BothHooks) (hook : Hook) (place at handle : ℕ) → BothWhole both → BothWhole (on_hook hook (removed place at handle) both)
removed_whole both hook place at handle =
    let tables : List PlainTable = tables_on hook both in
    let left : List PlainTable = change_at place (in_masks (taken at handle)) tables in
    whole_changed hook both (removed place at handle)
    (λ whole. record {
      full = cleared_full place left
          (each_changed IsFull IsSwept (in_masks (taken at handle)) (λ t full. (full.each, full.rising)) (taken_swept at handle) place tables whole.full)
          (but_changed IsFull (in_masks (taken at handle)) place tables whole.full);
      rising = early_either place left (cleared place left) (cleared_either place left) (early_changed place (taken at handle) tables whole.rising);
    })
