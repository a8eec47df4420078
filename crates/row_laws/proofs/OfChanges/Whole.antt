-- Tables stay whole where masks and filters are changed.
use Rattle.std.proofs.Common.{◌≡◌, ℕ, zero, suc, ◌<◌, List, [], ◌∷◌, ◌++◌, map, true, refl, sym, subst}
use Rattle.tc_base.specs.declared.hook.Hook.{Hook}
use Rattle.tc_base.specs.declared.hook.Hook.TheVariants as hooks
use Rattle.filter_state.specs.Sound.{EachPair}
use Rattle.filter_index.specs.declared.filter.Filter.{Filter}
use Rattle.filter_tables.specs.Plain.{PlainMask, PlainTable}
use Rattle.filter_tables.specs.Places.{change_at, without_at}
use Rattle.filter_tables.specs.Changes.{comes_before, more_filter, other_actions, in_masks}
use Rattle.filter_tables.specs.Whole.{HasSome, IsFull, AreWhole}
use Rattle.filter_tables.specs.Rows.{BothHooks, tables_on, on_hook, BothWhole}
use Rattle.filter_tables.proofs.TableOrder.{each_without}
use Rattle.row_laws.proofs.OfChanges.Lists.{each_changed, pairs_changed, pairs_without}

-- ---- one hook
pub whole_on : (hook : Hook) (both : BothHooks) → BothWhole both → AreWhole (tables_on hook both)
whole_on hooks.Ingress both whole = whole.ingress
whole_on hooks.Egress both whole = whole.egress

pub whole_changed : (hook : Hook) (both : BothHooks) (change : List PlainTable → List PlainTable) → (AreWhole (tables_on hook both) → AreWhole (change (tables_on hook both))) →
    BothWhole both → BothWhole (on_hook hook change both)
whole_changed hooks.Ingress both change kept whole = record { ingress = kept whole.ingress; egress = whole.egress }
whole_changed hooks.Egress both change kept whole = record { ingress = whole.ingress; egress = kept whole.egress }

-- ---- a table or a mask changed in its place
abbrev pub IsEarlier : PlainTable → PlainTable → Type 0
IsEarlier t u = comes_before t u ≡ true

abbrev pub IsLower : PlainMask → PlainMask → Type 0
IsLower m n = m.serial < n.serial

abbrev pub HasFilters : PlainMask → Type 0
HasFilters m = HasSome m.filters

pub some_changed : {X : Type 0} (place : ℕ) (change : X → X) (xs : List X) → HasSome xs → HasSome (change_at place change xs)
some_changed place change [] some = elim some [ ]
some_changed zero change (x ∷ xs) some = tt
some_changed (suc place) change (x ∷ xs) some = tt

pub lower_changed : (at : ℕ) (change : PlainMask → PlainMask) → ((m : PlainMask) → (change m).serial ≡ m.serial) → (masks : List PlainMask) → EachPair IsLower masks →
    EachPair IsLower (change_at at change masks)
lower_changed at change same =
    pairs_changed IsLower change (λ m n less. subst (λ serial. serial < n.serial) (sym (same m)) less) (λ m n less. subst (λ serial. m.serial < serial) (sym (same n)) less) at

full_changed : (at : ℕ) (change : PlainMask → PlainMask) → ((m : PlainMask) → (change m).serial ≡ m.serial) → ((m : PlainMask) → HasFilters m → HasFilters (change m)) →
    (t : PlainTable) → IsFull t → IsFull (in_masks (change_at at change) t)
full_changed at change same some t full = record {
  some = some_changed at change t.masks full.some;
  each = each_changed HasFilters HasFilters change (λ m f. f) some at t.masks full.each;
  rising = lower_changed at change same t.masks full.rising;
}

pub early_changed : (place : ℕ) (change : List PlainMask → List PlainMask) (tables : List PlainTable) → EachPair IsEarlier tables → EachPair IsEarlier (change_at place (in_masks change) tables)
early_changed place change = pairs_changed IsEarlier (in_masks change) (λ t u before. before) (λ t u before. before) place

mask_changed : (hook : Hook) (place at : ℕ) (change : PlainMask → PlainMask) (both : BothHooks) → ((m : PlainMask) → (change m).serial ≡ m.serial) → ((m : PlainMask) → HasFilters m → HasFilters (change m)) →
    BothWhole both → BothWhole (on_hook hook (change_at place (in_masks (change_at at change))) both)
mask_changed hook place at change both same some =
    whole_changed hook both (change_at place (in_masks (change_at at change)))
    (λ whole. record {
      full = each_changed IsFull IsFull (in_masks (change_at at change)) (λ t f. f) (full_changed at change same some) place (tables_on hook both) whole.full;
      rising = early_changed place (change_at at change) (tables_on hook both) whole.rising;
    })

pub some_more : {X : Type 0} (xs ys : List X) → HasSome xs → HasSome (xs ++ ys)
some_more [] ys some = elim some [ ]
some_more (x ∷ xs) ys some = tt

some_map : {X Y : Type 0} (f : X → Y) (xs : List X) → HasSome xs → HasSome (map f xs)
some_map f [] some = elim some [ ]
some_map f (x ∷ xs) some = tt

pub put_whole : (both : BothHooks) (hook : Hook) (place at : ℕ) (f : Filter) → BothWhole both → BothWhole (on_hook hook (change_at place (in_masks (change_at at (more_filter f)))) both)
put_whole both hook place at f = mask_changed hook place at (more_filter f) both (λ m. refl) (λ m some. some_more m.filters (f ∷ []) some)

pub actions_whole : (both : BothHooks) (hook : Hook) (place at handle : ℕ) (serials : List ℕ) → BothWhole both →
    BothWhole (on_hook hook (change_at place (in_masks (change_at at (other_actions handle serials)))) both)
actions_whole both hook place at handle serials = mask_changed hook place at (other_actions handle serials) both (λ m. refl) (λ m some. some_map _ m.filters some)

-- ---- a table taken out
pub table_whole : (both : BothHooks) (hook : Hook) (place : ℕ) → BothWhole both → BothWhole (on_hook hook (without_at place) both)
table_whole both hook place =
    whole_changed hook both (without_at place)
    (λ whole. record { full = each_without IsFull place (tables_on hook both) whole.full; rising = pairs_without IsEarlier place (tables_on hook both) whole.rising })
