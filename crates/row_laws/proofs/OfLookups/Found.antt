-- The rows of one table among those of both hooks.
use Rattle.std.proofs.Common.{◌≡◌, ℕ, zero, suc, Bool, true, false, not, cond, ◌==◌, ◌&&◌, List, [], ◌∷◌, ◌++◌, Some, refl, sym, ◌∙◌, ap, subst, arith, eq-eqb}
use Rattle.std.specs.Prelude.{filter}
use Rattle.std.specs.List.{list_any, flat_map}
use Rattle.std.proofs.lemmas.Bool.Decides.{nat_tests}
use Rattle.std.proofs.lemmas.Bool.{and_from}
use Rattle.std.proofs.lemmas.List.{append-nil}
use Rattle.std.proofs.lemmas.List.Elements.{filter-append}
use Rattle.std.proofs.lemmas.Option.{none-some, same_Some}
use Rattle.tc_base.specs.declared.hook.Hook.{Hook}
use Rattle.tc_base.specs.declared.hook.Hook.TheVariants as hooks
use Rattle.filter_state.specs.States.{Row}
use Rattle.filter_state.specs.Sound.{Each}
use Rattle.filter_state.specs.Tables.{in_table, hook_eq}
use Rattle.filter_index.specs.declared.filter.Filter.{Filter}
use Rattle.filter_tables.specs.Plain.{PlainMask, PlainTable}
use Rattle.filter_tables.specs.Places.{item_at}
use Rattle.filter_tables.specs.Changes.{is_table, comes_before, is_none_left}
use Rattle.filter_tables.specs.Whole.{HasSome, IsFull, AreWhole}
use Rattle.filter_tables.specs.Room.{AreRising}
use Rattle.filter_tables.specs.Rows.{BothHooks, BothWhole, tables_on, row_of, rows_of_mask, rows_of_table, rows_of, all_rows}
use Rattle.row_laws.proofs.OfLookups.Heads.{filter_none, any_left, none_kept}
use Rattle.filter_state.proofs.Pairs.{each_of, each_weaker, each_flat_map, each_filter}
use Rattle.row_laws.proofs.OfLookups.Blocks.{each_map, filter_blocks, some_map, some_blocks, left_blocks}

pub whole_on : (hook : Hook) (both : BothHooks) → BothWhole both → AreWhole (tables_on hook both)
whole_on hooks.Ingress both whole = whole.ingress
whole_on hooks.Egress both whole = whole.egress

pub hook_self : (hook : Hook) → hook_eq hook hook ≡ true
hook_self hooks.Ingress = refl
hook_self hooks.Egress = refl

-- ---- a table's rows
pub table_each : (hook : Hook) (t : PlainTable) (P : Row → Type 0) → ((m : PlainMask) (f : Filter) → P (row_of hook t m f)) → Each P (rows_of_table hook t)
table_each hook t P one =
    each_flat_map P (rows_of_mask hook t) t.masks
    (each_of (λ m. Each P (rows_of_mask hook t m)) (λ m. each_map (row_of hook t m) P (one m) m.filters) t.masks)

pub some_rows : (hook : Hook) (t : PlainTable) → IsFull t → HasSome (rows_of_table hook t)
some_rows hook t full =
    some_blocks (rows_of_mask hook t) t.masks full.some
    (each_weaker (λ (m : PlainMask). HasSome m.filters) (λ m. HasSome (rows_of_mask hook t m)) (λ m some. some_map (row_of hook t m) m.filters some) t.masks full.each)

-- ---- rows of one hook that a table decides
-- a test that each table decides for its rows, and that no row of another hook passes
pub record ByTable (hook : Hook) (test : Row → Bool) (decides : PlainTable → Bool) : Type 0 where
  pub here : (t : PlainTable) (m : PlainMask) (f : Filter) → test (row_of hook t m f) ≡ decides t
  pub there : (h : Hook) → hook_eq h hook ≡ false → (t : PlainTable) (m : PlainMask) (f : Filter) → test (row_of h t m f) ≡ false

kept_here : (hook : Hook) (test : Row → Bool) (decides : PlainTable → Bool) → ByTable hook test decides → (tables : List PlainTable) →
    filter test (rows_of hook tables) ≡ rows_of hook (filter decides tables)
unfolding rows_of
kept_here hook test decides by tables =
    filter_blocks test decides (rows_of_table hook) (λ t. table_each hook t (λ r. test r ≡ decides t) (by.here t)) tables

kept_there : (h hook : Hook) (test : Row → Bool) (decides : PlainTable → Bool) → ByTable hook test decides → hook_eq h hook ≡ false → (tables : List PlainTable) →
    filter test (rows_of h tables) ≡ []
unfolding rows_of
kept_there h hook test decides by other tables =
    filter_none test (flat_map (rows_of_table h) tables)
    (each_flat_map (λ r. test r ≡ false) (rows_of_table h) tables
    (each_of (λ t. Each (λ r. test r ≡ false) (rows_of_table h t)) (λ t. table_each h t (λ r. test r ≡ false) (by.there h other t)) tables))

pub kept_rows : (both : BothHooks) (hook : Hook) (test : Row → Bool) (decides : PlainTable → Bool) → ByTable hook test decides →
    filter test (all_rows both) ≡ rows_of hook (filter decides (tables_on hook both))
kept_rows both hooks.Ingress test decides by =
    filter-append test (rows_of hooks.Ingress both.ingress) (rows_of hooks.Egress both.egress)
    ∙ ap (λ ys. filter test (rows_of hooks.Ingress both.ingress) ++ ys) (kept_there hooks.Egress hooks.Ingress test decides by refl both.egress)
    ∙ append-nil (filter test (rows_of hooks.Ingress both.ingress))
    ∙ kept_here hooks.Ingress test decides by both.ingress
kept_rows both hooks.Egress test decides by =
    filter-append test (rows_of hooks.Ingress both.ingress) (rows_of hooks.Egress both.egress)
    ∙ ap (λ ys. ys ++ filter test (rows_of hooks.Egress both.egress)) (kept_there hooks.Ingress hooks.Egress test decides by refl both.ingress)
    ∙ kept_here hooks.Egress test decides by both.egress

-- ---- the one table of a chain and pref
by_table : (hook : Hook) (chain pref : ℕ) → ByTable hook (in_table hook chain pref) (is_table chain pref)
by_table hook chain pref = record {
  here = λ t m f. ap (λ b. (b && t.chain == chain) && t.pref == pref) (hook_self hook);
  there = λ h other t m f. ap (λ b. (b && t.chain == chain) && t.pref == pref) other;
}

not_earlier : (t u : PlainTable) → comes_before t u ≡ true → is_table t.chain t.pref u ≡ false
not_earlier t u before = grind (arith, nat_tests)

not_later : (t u : PlainTable) → comes_before t u ≡ true → is_table u.chain u.pref t ≡ false
not_later t u before = grind (arith, nat_tests)

is_itself : (t : PlainTable) → is_table t.chain t.pref t ≡ true
is_itself t = and_from (t.chain == t.chain) (t.pref == t.pref) (eq-eqb t.chain t.chain refl) (eq-eqb t.pref t.pref refl)

pub item_each : {X : Type 0} (P : X → Type 0) (xs : List X) (place : ℕ) (x : X) → Each P xs → item_at xs place ≡ Some x → P x
item_each P [] place x all at = absurd (none-some x at)
item_each P (y ∷ xs) zero x all at = subst P (same_Some y x at) all.0
item_each P (y ∷ xs) (suc place) x all at = item_each P xs place x all.1 at

one_left : (tables : List PlainTable) (place : ℕ) (t : PlainTable) → AreRising tables → item_at tables place ≡ Some t → filter (is_table t.chain t.pref) tables ≡ t ∷ []
one_left [] place t rising at = absurd (none-some t at)
one_left (u ∷ us) zero t rising at =
    subst (λ (v : PlainTable). filter (is_table v.chain v.pref) (u ∷ us) ≡ v ∷ []) (same_Some u t at)
    (ap (λ b. cond b (u ∷ filter (is_table u.chain u.pref) us) (filter (is_table u.chain u.pref) us)) (is_itself u)
    ∙ ap (λ vs. u ∷ vs) (filter_none (is_table u.chain u.pref) us (each_weaker (λ v. comes_before u v ≡ true) (λ v. is_table u.chain u.pref v ≡ false) (not_earlier u) us rising.0)))
one_left (u ∷ us) (suc place) t rising at =
    let before = item_each (λ v. comes_before u v ≡ true) us place t rising.0 at in
    ap (λ b. cond b (u ∷ filter (is_table t.chain t.pref) us) (filter (is_table t.chain t.pref) us)) (not_later u t before)
    ∙ one_left us place t rising.1 at

-- ---- the rows of a table
alone : (hook : Hook) (t : PlainTable) → rows_of hook (t ∷ []) ≡ rows_of_table hook t
unfolding rows_of
alone hook t = append-nil (rows_of_table hook t)

no_tables : (hook : Hook) → rows_of hook [] ≡ []
unfolding rows_of
no_tables hook = refl

pub rows_found : (both : BothHooks) (hook : Hook) (place : ℕ) (t : PlainTable) → BothWhole both → item_at (tables_on hook both) place ≡ Some t →
    filter (in_table hook t.chain t.pref) (all_rows both) ≡ rows_of_table hook t
rows_found both hook place t whole at =
    let here : AreWhole (tables_on hook both) = whole_on hook both whole in
    kept_rows both hook (in_table hook t.chain t.pref) (is_table t.chain t.pref) (by_table hook t.chain t.pref)
    ∙ ap (rows_of hook) (one_left (tables_on hook both) place t here.rising at) ∙ alone hook t

pub rows_missing : (both : BothHooks) (hook : Hook) (chain pref : ℕ) → list_any (is_table chain pref) (tables_on hook both) ≡ false →
    filter (in_table hook chain pref) (all_rows both) ≡ []
rows_missing both hook chain pref missing =
    kept_rows both hook (in_table hook chain pref) (is_table chain pref) (by_table hook chain pref)
    ∙ ap (rows_of hook) (none_kept (is_table chain pref) (tables_on hook both) missing) ∙ no_tables hook

left_tables : (hook : Hook) (tables : List PlainTable) → Each IsFull tables → is_none_left (rows_of hook tables) ≡ is_none_left tables
unfolding rows_of
left_tables hook tables full = left_blocks (rows_of_table hook) tables (each_weaker IsFull (λ t. HasSome (rows_of_table hook t)) (some_rows hook) tables full)

pub rows_any : (both : BothHooks) (hook : Hook) (chain pref : ℕ) → BothWhole both →
    list_any (in_table hook chain pref) (all_rows both) ≡ list_any (is_table chain pref) (tables_on hook both)
rows_any both hook chain pref whole =
    let here : AreWhole (tables_on hook both) = whole_on hook both whole in
    any_left (in_table hook chain pref) (all_rows both)
    ∙ ap (λ rows. not (is_none_left rows)) (kept_rows both hook (in_table hook chain pref) (is_table chain pref) (by_table hook chain pref))
    ∙ ap not (left_tables hook (filter (is_table chain pref) (tables_on hook both)) (each_filter IsFull (is_table chain pref) (tables_on hook both) here.full))
    ∙ sym (any_left (is_table chain pref) (tables_on hook both))
