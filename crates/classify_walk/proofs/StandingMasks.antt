-- The masks that heads tell stand in the state.
use Rattle.std.proofs.Common.{◌≡◌, ℕ, ◌||◌, Bool, true, false, List, [], ◌∷◌, ◌++◌, refl, sym, ap, subst}
use Rattle.std.specs.Prelude.{map}
use Rattle.std.specs.List.{flat_map, list_any}
use Rattle.std.proofs.lemmas.Bool.{false≢true}
use Rattle.tc_base.specs.declared.hook.Hook.{Hook}
use Rattle.tc_base.specs.declared.hook.Hook.TheVariants as hooks
use Rattle.filter_index.specs.declared.filter.Filter.{Filter}
use Rattle.filter_state.specs.Order.{of_mask}
use Rattle.filter_state.specs.Sound.{Each}
use Rattle.filter_tables.specs.Plain.{PlainMask, PlainTable}
use Rattle.filter_tables.specs.Whole.{HasSome, IsFull, AreWhole}
use Rattle.filter_tables.specs.Rows.{row_of, rows_of_mask, rows_of_table, rows_of, tables_on}
use Rattle.hook_lists.specs.declared.kept.Kept.{Kept}
use Rattle.hook_lists.specs.States.{both_of, AreKept}
use Rattle.visit_room.specs.declared.names.MaskName.{MaskName}
use Rattle.visit_room.specs.declared.table_head.TableHead.{TableHead}
use Rattle.walk_rules.specs.Questions.{Head}
use Rattle.walk_steps.specs.Told.{mask_serials, heads_told, MasksKnown}
use Rattle.row_laws.proofs.OfLookups.Found.{whole_on}
use Rattle.head_laws.proofs.HeadRows.{one_number}
use Rattle.head_laws.specs.Heads.{serials_of, head_of}
use Rattle.classify_walk.specs.Answered.{StandsMask}

-- ---- some row
any_front : {X : Type 0} (test : X → Bool) (xs ys : List X) → list_any test xs ≡ true → list_any test (xs ++ ys) ≡ true
any_front test [] ys is = absurd (false≢true is)
any_front test (x ∷ xs) ys is = at (test x) (any_front test xs ys) is
  where
    at : (b : Bool) → (list_any test xs ≡ true → list_any test (xs ++ ys) ≡ true) → (b || list_any test xs) ≡ true → (b || list_any test (xs ++ ys)) ≡ true
    at true more is = refl
    at false more is = more is

any_back : {X : Type 0} (test : X → Bool) (xs ys : List X) → list_any test ys ≡ true → list_any test (xs ++ ys) ≡ true
any_back test [] ys is = is
any_back test (x ∷ xs) ys is = at (test x) (any_back test xs ys is)
  where
    at : (b : Bool) → list_any test (xs ++ ys) ≡ true → (b || list_any test (xs ++ ys)) ≡ true
    at true is = refl
    at false is = is

any_of_mask : (hook : Hook) (t : PlainTable) (m : PlainMask) (filters : List Filter) → HasSome filters → list_any (of_mask m.serial) (map (row_of hook t m) filters) ≡ true
any_of_mask hook t m [] some = absurd some
any_of_mask hook t m (f ∷ filters) some = ap (λ b. b || list_any (of_mask m.serial) (map (row_of hook t m) filters)) (one_number m.serial)

-- ---- each mask of each table
masks_stand : (P : ℕ → Type 0) (hook : Hook) (t : PlainTable) (masks : List PlainMask) → Each (λ (m : PlainMask). HasSome m.filters) masks →
    ((serial : ℕ) → list_any (of_mask serial) (flat_map (rows_of_mask hook t) masks) ≡ true → P serial) → Each P (serials_of masks)
masks_stand P hook t [] some holds = tt
masks_stand P hook t (m ∷ masks) some holds = (
  holds m.serial (any_front (of_mask m.serial) (rows_of_mask hook t m) (flat_map (rows_of_mask hook t) masks) (any_of_mask hook t m m.filters some.0)),
  masks_stand P hook t masks some.1 (λ serial is. holds serial (any_back (of_mask serial) (rows_of_mask hook t m) (flat_map (rows_of_mask hook t) masks) is)),
)

tables_stand : (P : ℕ → Type 0) (hook : Hook) (tables : List PlainTable) → Each IsFull tables →
    ((serial : ℕ) → list_any (of_mask serial) (flat_map (rows_of_table hook) tables) ≡ true → P serial) → Each (λ (head : Head). Each P head.masks) (map head_of tables)
tables_stand P hook [] full holds = tt
tables_stand P hook (t ∷ tables) full holds =
    let here = full.0 in (
      masks_stand P hook t t.masks here.each (λ serial is. holds serial (any_front (of_mask serial) (rows_of_table hook t) (flat_map (rows_of_table hook) tables) is)),
      tables_stand P hook tables full.1 (λ serial is. holds serial (any_back (of_mask serial) (rows_of_table hook t) (flat_map (rows_of_table hook) tables) is)),
    )

on_hook : (kept : Kept) (hook : Hook) (serial : ℕ) → list_any (of_mask serial) (rows_of hook (tables_on hook (both_of kept))) ≡ true → StandsMask kept serial
on_hook kept hooks.Ingress serial is = any_front (of_mask serial) (rows_of hooks.Ingress kept.ingress.tables) (rows_of hooks.Egress kept.egress.tables) is
on_hook kept hooks.Egress serial is = any_back (of_mask serial) (rows_of hooks.Ingress kept.ingress.tables) (rows_of hooks.Egress kept.egress.tables) is

heads_stand : (kept : Kept) (hook : Hook) → AreKept kept → Each (λ (head : Head). Each (StandsMask kept) head.masks) (map head_of (tables_on hook (both_of kept)))
unfolding rows_of
heads_stand kept hook is =
    let whole : AreWhole (tables_on hook (both_of kept)) = whole_on hook (both_of kept) is.whole in
    tables_stand (StandsMask kept) hook (tables_on hook (both_of kept)) whole.full (on_hook kept hook)

-- ---- the same of the names that were told
each_name : (P : ℕ → Type 0) (masks : List MaskName) → Each P (mask_serials masks) → Each (λ (m : MaskName). P m.serial) masks
each_name P [] all = tt
each_name P (m ∷ masks) all = (all.0, each_name P masks all.1)

each_head : (P : ℕ → Type 0) (heads : List TableHead) → Each (λ (head : Head). Each P head.masks) (heads_told heads) → MasksKnown (λ table mask. P mask.serial) heads
each_head P [] all = tt
each_head P (head ∷ heads) all = (each_name P head.masks all.0, each_head P heads all.1)

pub masks_known : (kept : Kept) (hook : Hook) (heads : List TableHead) → AreKept kept → heads_told heads ≡ map head_of (tables_on hook (both_of kept)) →
    MasksKnown (λ table mask. StandsMask kept mask.serial) heads
masks_known kept hook heads is told =
    each_head (StandsMask kept) heads (subst (Each (λ (head : Head). Each (StandsMask kept) head.masks)) (sym told) (heads_stand kept hook is))
