-- The rows of a mask are those of its own filters: no other table, and no other mask of its table, has rows
-- of its serial.
use Rattle.std.proofs.Common.{◌≡◌, ◌∙◌, inl, inr, ℕ, ◌==◌, ◌&&◌, ◌<◌, Bool, true, false, cond, List, [], ◌∷◌, Some, refl, sym, ap, subst, arith, eqb-true, eq-eqb}
use Rattle.std.specs.Prelude.{filter}
use Rattle.std.specs.List.{flat_map}
use Rattle.std.proofs.lemmas.Bool.{and_from}
use Rattle.std.proofs.lemmas.List.{append-nil}
use Rattle.tc_base.specs.declared.hook.Hook.{Hook}
use Rattle.filter_index.specs.declared.filter.Filter.{Filter}
use Rattle.filter_state.specs.States.{Row}
use Rattle.filter_state.specs.Order.{of_mask}
use Rattle.filter_state.specs.Sound.{Each, EachPair, GoTogether}
use Rattle.filter_state.specs.Tables.{in_table, hook_eq}
use Rattle.filter_tables.specs.Plain.{PlainMask, PlainTable}
use Rattle.filter_tables.specs.Places.{item_at}
use Rattle.filter_tables.specs.Whole.{HasSome, IsFull}
use Rattle.filter_tables.specs.Rows.{BothHooks, BothWhole, tables_on, row_of, rows_of_mask, all_rows}
use Rattle.row_laws.proofs.OfLookups.Heads.{filter_and}
use Rattle.filter_state.proofs.Pairs.{each_weaker}
use Rattle.row_laws.proofs.OfLookups.Blocks.{each_map, filter_blocks}
use Rattle.row_laws.proofs.OfLookups.Pairs.{pairs_both}
use Rattle.row_laws.proofs.OfLookups.Among.{Among, NotBoth, among_at, one_kept}
use Rattle.row_laws.proofs.OfLookups.Found.{hook_self, item_each, rows_found}
use Rattle.row_laws.proofs.OfLookups.Tables.{full_at}
use Rattle.row_laws.proofs.OfLookups.Handles.{row_among}
use Rattle.head_laws.specs.Heads.{is_mask}

-- ---- an element, and the others beside it
kept_among : {X : Type 0} (x : X) (b : Bool) (y : X) (ys kept : List X) → (Among x kept → Among x ys) → Among x (cond b (y ∷ kept) kept) → Among x (y ∷ ys)
kept_among x true y ys kept more (inl e) = inl e
kept_among x true y ys kept more (inr later) = inr (more later)
kept_among x false y ys kept more among = inr (more among)

among_kept : {X : Type 0} (test : X → Bool) (x : X) (xs : List X) → Among x (filter test xs) → Among x xs
among_kept test x [] among = among
among_kept test x (y ∷ ys) among = kept_among x (test y) y ys (filter test ys) (among_kept test x ys) among

each_among : {X : Type 0} (P : X → Type 0) (x : X) (xs : List X) → Among x xs → Each P xs → P x
each_among P x [] among all = absurd among
each_among P x (y ∷ ys) (inl e) all = subst P (sym e) all.0
each_among P x (y ∷ ys) (inr more) all = each_among P x ys more all.1

-- what holds of an element, and of each that is related to it
beside : {X : Type 0} (R : X → X → Type 0) (P : X → Type 0) (x : X) (xs : List X) → Among x xs → EachPair R xs → P x → ((y : X) → R x y → P y) → ((y : X) → R y x → P y) → Each P xs
beside R P x [] among pairs own behind before = absurd among
beside R P x (y ∷ ys) (inl e) pairs own behind before = (subst P e own, each_weaker (R y) P (λ z related. behind z (subst (λ u. R u z) (sym e) related)) ys pairs.0)
beside R P x (y ∷ ys) (inr more) pairs own behind before = (before y (each_among (R y) x ys more pairs.0), beside R P x ys more pairs.1 own behind before)

same_step : {X : Type 0} (b c : Bool) (x : X) (ys zs : List X) → b ≡ c → ys ≡ zs → cond b (x ∷ ys) ys ≡ cond c (x ∷ zs) zs
same_step true c x ys zs e same = ap (λ us. x ∷ us) same ∙ ap (λ d. cond d (x ∷ zs) zs) e
same_step false c x ys zs e same = same ∙ ap (λ d. cond d (x ∷ zs) zs) e

same_kept : {X : Type 0} (p q : X → Bool) (xs : List X) → Each (λ x. p x ≡ q x) xs → filter p xs ≡ filter q xs
same_kept p q [] all = refl
same_kept p q (x ∷ xs) all = same_step (p x) (q x) x (filter p xs) (filter q xs) all.0 (same_kept p q xs all.1)

-- ---- a row of the mask is of its table
record IsOfTable (hook : Hook) (t : PlainTable) (row : Row) : Type 0 where
  pub hook_is : row.hook ≡ hook
  pub chain_is : row.chain ≡ t.chain
  pub pref_is : row.pref ≡ t.pref

abbrev IsDecided : Hook → PlainTable → ℕ → Row → Type 0
IsDecided hook t serial row = of_mask serial row ≡ (in_table hook t.chain t.pref row && of_mask serial row)

table_tested : (hook : Hook) (t : PlainTable) (row : Row) → IsOfTable hook t row → in_table hook t.chain t.pref row ≡ true
table_tested hook t row of =
    and_from (hook_eq row.hook hook && row.chain == t.chain) (row.pref == t.pref)
    (and_from (hook_eq row.hook hook) (row.chain == t.chain) (ap (λ h. hook_eq h hook) of.hook_is ∙ hook_self hook) (eq-eqb row.chain t.chain of.chain_is))
    (eq-eqb row.pref t.pref of.pref_is)

false_behind : (b : Bool) → false ≡ (b && false)
false_behind true = refl
false_behind false = refl

decided_at : (hook : Hook) (t : PlainTable) (row : Row) (b : Bool) → (b ≡ true → IsOfTable hook t row) → b ≡ (in_table hook t.chain t.pref row && b)
decided_at hook t row true of = sym (ap (λ c. c && true) (table_tested hook t row (of refl)))
decided_at hook t row false of = false_behind (in_table hook t.chain t.pref row)

decided : (hook : Hook) (t : PlainTable) (serial : ℕ) (row : Row) → (row.mask_serial ≡ serial → IsOfTable hook t row) → IsDecided hook t serial row
decided hook t serial row of = decided_at hook t row (of_mask serial row) (λ is. of (eqb-true row.mask_serial serial is))

behind : (hook : Hook) (t : PlainTable) (m : PlainMask) (f : Filter) (row : Row) → GoTogether (row_of hook t m f) row → IsDecided hook t m.serial row
behind hook t m f row together =
    decided hook t m.serial row (λ named.
    let table = (together.same_mask (sym named)).0 in
    let same = together.same_table table in
    record { hook_is = sym same.0; chain_is = sym same.1; pref_is = sym same.2 })

before : (hook : Hook) (t : PlainTable) (m : PlainMask) (f : Filter) (row : Row) → GoTogether row (row_of hook t m f) → IsDecided hook t m.serial row
before hook t m f row together =
    decided hook t m.serial row (λ named.
    let table = (together.same_mask named).0 in
    let same = together.same_table table in
    record { hook_is = same.0; chain_is = same.1; pref_is = same.2 })

own : (hook : Hook) (t : PlainTable) (m : PlainMask) (f : Filter) → IsDecided hook t m.serial (row_of hook t m f)
own hook t m f = decided hook t m.serial (row_of hook t m f) (λ named. record { hook_is = refl; chain_is = refl; pref_is = refl })

-- ---- the mask among those of its table
one_less : (serial : ℕ) (m n : PlainMask) → m.serial < n.serial → NotBoth (is_mask serial) m n
one_less serial m n less here there = differ (eqb-true m.serial serial here) (eqb-true n.serial serial there)
  where
    differ : m.serial ≡ serial → n.serial ≡ serial → ⊥
    differ a b = absurd (omega (arith, a, b, less))

one_mask : (t : PlainTable) (m : PlainMask) (place : ℕ) → IsFull t → item_at t.masks place ≡ Some m → filter (is_mask m.serial) t.masks ≡ m ∷ []
one_mask t m place full there =
    one_kept (is_mask m.serial) m t.masks (among_at t.masks place m there) (eq-eqb m.serial m.serial refl)
    (pairs_both (λ (n o : PlainMask). n.serial < o.serial) (λ (n o : PlainMask). n.serial < o.serial) (NotBoth (is_mask m.serial))
    (λ n o less _. one_less m.serial n o less) t.masks full.rising full.rising)

-- ---- the rows of the mask
first_filter : (m : PlainMask) (filters : List Filter) → HasSome filters → (f : Filter) × Among f filters
first_filter m [] some = absurd some
first_filter m (f ∷ filters) some = (f, inl refl)

pub filters_stand : (both : BothHooks) (hook : Hook) (place at : ℕ) (t : PlainTable) (m : PlainMask) → BothWhole both → item_at (tables_on hook both) place ≡ Some t → item_at t.masks at ≡ Some m →
    HasSome m.filters
filters_stand both hook place at t m whole here there =
    let full : IsFull t = full_at both hook place t whole here in
    item_each (λ (n : PlainMask). HasSome n.filters) t.masks at m full.each there

pub mask_rows : (both : BothHooks) (hook : Hook) (place at : ℕ) (t : PlainTable) (m : PlainMask) → BothWhole both → EachPair GoTogether (all_rows both) →
    item_at (tables_on hook both) place ≡ Some t → item_at t.masks at ≡ Some m → filter (of_mask m.serial) (all_rows both) ≡ rows_of_mask hook t m
mask_rows both hook place at t m whole together here there =
    let first = first_filter m m.filters (filters_stand both hook place at t m whole here there) in
    let found = rows_found both hook place t whole here in
    let among : Among (row_of hook t m first.0) (all_rows both) =
    among_kept (in_table hook t.chain t.pref) (row_of hook t m first.0) (all_rows both)
    (subst (Among (row_of hook t m first.0)) (sym found) (row_among hook t m first.0 at there first.1)) in
    same_kept (of_mask m.serial) (λ row. in_table hook t.chain t.pref row && of_mask m.serial row) (all_rows both)
    (beside GoTogether (IsDecided hook t m.serial) (row_of hook t m first.0) (all_rows both) among together (own hook t m first.0) (behind hook t m first.0) (before hook t m first.0))
    ∙ filter_and (in_table hook t.chain t.pref) (of_mask m.serial) (all_rows both)
    ∙ ap (filter (of_mask m.serial)) found
    ∙ filter_blocks (of_mask m.serial) (is_mask m.serial) (rows_of_mask hook t)
    (λ n. each_map (row_of hook t n) (λ (r : Row). of_mask m.serial r ≡ is_mask m.serial n) (λ f. refl) n.filters) t.masks
    ∙ ap (flat_map (rows_of_mask hook t)) (one_mask t m at (full_at both hook place t whole here) there)
    ∙ append-nil (rows_of_mask hook t m)
