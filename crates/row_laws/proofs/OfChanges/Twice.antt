-- One change after another, of one hook, at one place.
use Rattle.std.proofs.Common.{◌≡◌, ℕ, zero, suc, List, [], ◌∷◌, option_map, Some, refl, ◌∙◌, ap}
use Rattle.std.proofs.lemmas.Option.{none-some}
use Rattle.tc_base.specs.declared.hook.Hook.{Hook}
use Rattle.tc_base.specs.declared.hook.Hook.TheVariants as hooks
use Rattle.filter_tables.specs.Plain.{PlainMask, PlainTable}
use Rattle.filter_tables.specs.Places.{item_at, change_at}
use Rattle.filter_tables.specs.Changes.{swept, in_masks}
use Rattle.filter_tables.specs.Rows.{BothHooks, tables_on, on_hook, rows_of, all_rows}
use Rattle.row_laws.proofs.OfChanges.Swept.{alike_rows, alike_on, swept_rows}

hook_twice : (hook : Hook) (first next : List PlainTable → List PlainTable) (both : BothHooks) →
    on_hook hook (λ tables. next (first tables)) both ≡ on_hook hook next (on_hook hook first both)
hook_twice hooks.Ingress first next both = refl
hook_twice hooks.Egress first next both = refl

pub tables_changed : (hook : Hook) (change : List PlainTable → List PlainTable) (both : BothHooks) → tables_on hook (on_hook hook change both) ≡ change (tables_on hook both)
tables_changed hooks.Ingress change both = refl
tables_changed hooks.Egress change both = refl

pub change_twice : {X : Type 0} (first next : X → X) (place : ℕ) (xs : List X) → change_at place (λ x. next (first x)) xs ≡ change_at place next (change_at place first xs)
change_twice first next place [] = refl
change_twice first next zero (x ∷ xs) = refl
change_twice first next (suc place) (x ∷ xs) = ap (λ rest. x ∷ rest) (change_twice first next place xs)

-- ---- the element at the place, and at another
pub item_changed : {X : Type 0} (change : X → X) (place : ℕ) (xs : List X) (x : X) → item_at xs place ≡ Some x → item_at (change_at place change xs) place ≡ Some (change x)
item_changed change place [] x is = absurd (none-some x is)
item_changed change zero (y ∷ xs) x is = ap (option_map change) is
item_changed change (suc place) (y ∷ xs) x is = item_changed change place xs x is

pub item_elsewhere : {X : Type 0} (change : X → X) (place other : ℕ) (xs : List X) → (place ≡ other → ⊥) → item_at (change_at place change xs) other ≡ item_at xs other
item_elsewhere change place other [] differ = refl
item_elsewhere change zero zero (x ∷ xs) differ = absurd (differ refl)
item_elsewhere change zero (suc other) (x ∷ xs) differ = refl
item_elsewhere change (suc place) zero (x ∷ xs) differ = refl
item_elsewhere change (suc place) (suc other) (x ∷ xs) differ = item_elsewhere change place other xs (λ same. differ (ap suc same))

-- ---- rows after two changes of the masks of a table, where the second may sweep
pub rows_twice : (hook : Hook) (place at : ℕ) (first next : List PlainMask → List PlainMask) (both : BothHooks) →
    all_rows (on_hook hook (change_at place (in_masks (λ masks. swept at (next (first masks))))) both)
    ≡ all_rows (on_hook hook (change_at place (in_masks next)) (on_hook hook (change_at place (in_masks first)) both))
rows_twice hook place at first next both =
    let both_changes : List PlainMask → List PlainMask = λ masks. next (first masks) in
    alike_on hook both (change_at place (in_masks (λ masks. swept at (next (first masks))))) (λ tables. change_at place (in_masks next) (change_at place (in_masks first) tables))
    (alike_rows hook (λ masks. swept at (next (first masks))) both_changes (λ t. swept_rows hook t at (next (first t.masks))) place (tables_on hook both)
    ∙ ap (rows_of hook) (change_twice (in_masks first) (in_masks next) place (tables_on hook both)))
    ∙ ap all_rows (hook_twice hook (change_at place (in_masks first)) (change_at place (in_masks next)) both)
