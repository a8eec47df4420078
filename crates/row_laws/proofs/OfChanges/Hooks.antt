-- The rows of both hooks, around those of one hook, of one table and of one mask.
use Rattle.std.proofs.Common.{◌≡◌, ℕ, List, [], ◌∷◌, ◌++◌, refl, sym, ◌∙◌, ap}
use Rattle.std.specs.List.{flat_map}
use Rattle.std.proofs.lemmas.List.{append-nil, append_assoc}
use Rattle.std.proofs.lemmas.List.Concat.{flat_map-append}
use Rattle.tc_base.specs.declared.hook.Hook.{Hook}
use Rattle.tc_base.specs.declared.hook.Hook.TheVariants as hooks
use Rattle.filter_state.specs.States.{Row}
use Rattle.filter_tables.specs.Plain.{PlainMask, PlainTable}
use Rattle.filter_tables.specs.Places.{change_at}
use Rattle.filter_tables.specs.Changes.{in_masks}
use Rattle.filter_tables.specs.Rows.{BothHooks, tables_on, on_hook, rows_of_mask, rows_of_table, rows_of, all_rows}
use Rattle.row_laws.proofs.OfChanges.Lists.{CutAt}

-- the rows before those of a hook, and behind them
abbrev pub rows_ahead : Hook → BothHooks → List Row
rows_ahead hooks.Ingress both = []
rows_ahead hooks.Egress both = rows_of hooks.Ingress both.ingress

abbrev pub rows_after : Hook → BothHooks → List Row
rows_after hooks.Ingress both = rows_of hooks.Egress both.egress
rows_after hooks.Egress both = []

pub hook_changed : (hook : Hook) (both : BothHooks) (change : List PlainTable → List PlainTable) →
    all_rows (on_hook hook change both) ≡ rows_ahead hook both ++ (rows_of hook (change (tables_on hook both)) ++ rows_after hook both)
hook_changed hooks.Ingress both change = refl
hook_changed hooks.Egress both change = ap (λ rows. rows_of hooks.Ingress both.ingress ++ rows) (sym (append-nil (rows_of hooks.Egress (change both.egress))))

pub hook_rows : (hook : Hook) (both : BothHooks) → all_rows both ≡ rows_ahead hook both ++ (rows_of hook (tables_on hook both) ++ rows_after hook both)
hook_rows hooks.Ingress both = refl
hook_rows hooks.Egress both = ap (λ rows. rows_of hooks.Ingress both.ingress ++ rows) (sym (append-nil (rows_of hooks.Egress both.egress)))

-- ---- the rows of a table among those of its hook
table_rows : (hook : Hook) (front : List PlainTable) (table : PlainTable) (back : List PlainTable) →
    rows_of hook (front ++ (table ∷ back)) ≡ rows_of hook front ++ (rows_of_table hook table ++ rows_of hook back)
unfolding rows_of
table_rows hook front table back = flat_map-append (rows_of_table hook) front (table ∷ back)

pub tables_joined : (hook : Hook) (front back : List PlainTable) → rows_of hook (front ++ back) ≡ rows_of hook front ++ rows_of hook back
unfolding rows_of
tables_joined hook front back = flat_map-append (rows_of_table hook) front back

-- the rows of a mask among those of its table
mask_rows : (hook : Hook) (table : PlainTable) (front : List PlainMask) (mask : PlainMask) (back : List PlainMask) →
    flat_map (rows_of_mask hook table) (front ++ (mask ∷ back))
    ≡ flat_map (rows_of_mask hook table) front ++ (rows_of_mask hook table mask ++ flat_map (rows_of_mask hook table) back)
mask_rows hook table front mask back = flat_map-append (rows_of_mask hook table) front (mask ∷ back)

-- ---- all rows, around those of a table and of a mask
abbrev pub ahead_of_table : Hook → BothHooks → List PlainTable → List Row
ahead_of_table hook both front = rows_ahead hook both ++ rows_of hook front

abbrev pub after_table : Hook → BothHooks → List PlainTable → List Row
after_table hook both back = rows_of hook back ++ rows_after hook both

regrouped : (a b c d e : List Row) → a ++ ((b ++ (c ++ d)) ++ e) ≡ (a ++ b) ++ (c ++ (d ++ e))
regrouped a b c d e = simp append_assoc

pub around_table : (hook : Hook) (both : BothHooks) (place : ℕ) (table : PlainTable) (cut : CutAt (tables_on hook both) place table) →
    all_rows both ≡ ahead_of_table hook both cut.front ++ (rows_of_table hook table ++ after_table hook both cut.back)
around_table hook both place table cut =
    hook_rows hook both
    ∙ ap (λ tables. rows_ahead hook both ++ (rows_of hook tables ++ rows_after hook both)) cut.whole
    ∙ ap (λ rows. rows_ahead hook both ++ (rows ++ rows_after hook both)) (table_rows hook cut.front table cut.back)
    ∙ regrouped (rows_ahead hook both) (rows_of hook cut.front) (rows_of_table hook table) (rows_of hook cut.back) (rows_after hook both)

pub around_changed : (hook : Hook) (both : BothHooks) (place : ℕ) (table : PlainTable) (cut : CutAt (tables_on hook both) place table) (change : PlainTable → PlainTable) →
    all_rows (on_hook hook (change_at place change) both) ≡ ahead_of_table hook both cut.front ++ (rows_of_table hook (change table) ++ after_table hook both cut.back)
around_changed hook both place table cut change =
    hook_changed hook both (change_at place change)
    ∙ ap (λ tables. rows_ahead hook both ++ (rows_of hook tables ++ rows_after hook both)) (cut.changed change)
    ∙ ap (λ rows. rows_ahead hook both ++ (rows ++ rows_after hook both)) (table_rows hook cut.front (change table) cut.back)
    ∙ regrouped (rows_ahead hook both) (rows_of hook cut.front) (rows_of_table hook (change table)) (rows_of hook cut.back) (rows_after hook both)

abbrev pub ahead_of_mask : Hook → BothHooks → List PlainTable → PlainTable → List PlainMask → List Row
ahead_of_mask hook both tables table masks = ahead_of_table hook both tables ++ flat_map (rows_of_mask hook table) masks

abbrev pub after_mask : Hook → BothHooks → List PlainTable → PlainTable → List PlainMask → List Row
after_mask hook both tables table masks = flat_map (rows_of_mask hook table) masks ++ after_table hook both tables

pub around_mask : (hook : Hook) (both : BothHooks) (place at : ℕ) (table : PlainTable) (mask : PlainMask) (cut : CutAt (tables_on hook both) place table) (inner : CutAt table.masks at mask) →
    all_rows both ≡ ahead_of_mask hook both cut.front table inner.front ++ (rows_of_mask hook table mask ++ after_mask hook both cut.back table inner.back)
around_mask hook both place at table mask cut inner =
    around_table hook both place table cut
    ∙ ap (λ masks. ahead_of_table hook both cut.front ++ (flat_map (rows_of_mask hook table) masks ++ after_table hook both cut.back)) inner.whole
    ∙ ap (λ rows. ahead_of_table hook both cut.front ++ (rows ++ after_table hook both cut.back)) (mask_rows hook table inner.front mask inner.back)
    ∙ regrouped (ahead_of_table hook both cut.front) (flat_map (rows_of_mask hook table) inner.front) (rows_of_mask hook table mask) (flat_map (rows_of_mask hook table) inner.back) (after_table hook both cut.back)

pub around_change : (hook : Hook) (both : BothHooks) (place at : ℕ) (table : PlainTable) (mask : PlainMask) (cut : CutAt (tables_on hook both) place table) (inner : CutAt table.masks at mask) (change : PlainMask → PlainMask) →
    all_rows (on_hook hook (change_at place (in_masks (change_at at change))) both)
    ≡ ahead_of_mask hook both cut.front table inner.front ++ (rows_of_mask hook table (change mask) ++ after_mask hook both cut.back table inner.back)
around_change hook both place at table mask cut inner change =
    around_changed hook both place table cut (in_masks (change_at at change))
    ∙ ap (λ masks. ahead_of_table hook both cut.front ++ (flat_map (rows_of_mask hook table) masks ++ after_table hook both cut.back)) (inner.changed change)
    ∙ ap (λ rows. ahead_of_table hook both cut.front ++ (rows ++ after_table hook both cut.back)) (mask_rows hook table inner.front (change mask) inner.back)
    ∙ regrouped (ahead_of_table hook both cut.front) (flat_map (rows_of_mask hook table) inner.front) (rows_of_mask hook table (change mask)) (flat_map (rows_of_mask hook table) inner.back) (after_table hook both cut.back)
