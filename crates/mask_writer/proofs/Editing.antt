-- A writer whose masks were edited at one slot: its orders stay those of the ages, and what is seen of it.
use Rattle.std.proofs.Common.{◌≡◌, ◌≢◌, ◌∙◌, ℕ, ◌<◌, ◌≤◌, Bool, true, false, eqb, List, [], ◌∷◌, ◌++◌, length, set, get_or, Option, Some, None, refl, sym, ap, subst, arith, eqb-true, get_or-set_other, get_or-set_same}
use Rattle.std.proofs.lemmas.Bool.{eqb-false}
use Rattle.std.proofs.lemmas.List.{length-set, set-get_or}
use Rattle.store_history.specs.declared.history.Named.{Named}
use Rattle.store_history.specs.declared.places.TheConstants.{MASK_SLOTS}
use Rattle.pin_store.specs.declared.shape.Shape.{Shape}
use Rattle.block_codec.specs.declared.filter.StoredFilter.{StoredFilter}
use Rattle.mask_table.specs.declared.mirrors.mirror.Mirror.{Mirror}
use Rattle.mask_table.specs.declared.mirrors.mirror.KeptMask.{KeptMask}
use Rattle.mask_table.specs.OfMirrors.Kept.{Stands, IsKept}
use Rattle.mask_table.specs.OfMirrors.Lists.{HasFilters}
use Rattle.mask_table.specs.OfMirrors.Changing.{HasNone}
use Rattle.mask_writer.specs.Masks.{Order, Masks}
use Rattle.mask_writer.specs.Telling.{begun, ended, joined, without, exchanged}
use Rattle.mask_writer.specs.Shown.{all_standing, IsTold}
use Rattle.mask_writer.specs.Standing.{order_at, Holds}
use Rattle.mask_writer.proofs.Telling.{joined_known, joined_from, without_from, without_known, exchanged_from, exchanged_known, key_is}
use Rattle.mask_writer.proofs.Showing.{stands_kept, order_is, holds_shown}

-- what becomes of the arrays and of the orders as the mask at a slot is edited, and its order comes to be
-- another
pub record IsEdit (mirror mirror2 : Mirror) (orders orders2 : List (Option Order)) (slot : ℕ) (after : Option Order) : Type 0 where
  pub small : slot < MASK_SLOTS
  pub told : IsTold mirror orders
  pub changed : orders2 ≡ set orders slot after
  pub kept : (shape : Shape) × (cells : List ℕ) × (roots : ℕ → Named) × IsKept mirror2 shape cells roots
  pub lists : (other last : ℕ) (fs : List StoredFilter) → other ≢ slot → HasFilters mirror other last fs → HasFilters mirror2 other last fs
  pub known : (order : Order) → after ≡ Some order → HasFilters mirror2 slot order.newest order.filters

module _ (mirror mirror2 : Mirror) (orders orders2 : List (Option Order)) (slot : ℕ) (after : Option Order) (e : IsEdit mirror mirror2 orders orders2 slot after) where
  order_own : get_or orders2 slot None ≡ after
  order_own = let small = e.small in let long = e.told.long in
      ap (λ (xs : List (Option Order)). get_or xs slot None) e.changed ∙ get_or-set_same orders slot after None (omega arith)

  pub order_other : (other : ℕ) → other ≢ slot → get_or orders2 other None ≡ get_or orders other None
  order_other other away = ap (λ (xs : List (Option Order)). get_or xs other None) e.changed ∙ get_or-set_other orders slot other after None away

  pub told_again : IsTold mirror2 orders2
  told_again = record {
    long = ap length e.changed ∙ (length-set orders slot after ∙ e.told.long);
    kept = e.kept;
    known = λ other order is. pick other order is (eqb other slot) refl;
  }
    where
      pick : (other : ℕ) (order : Order) → get_or orders2 other None ≡ Some order → (t : Bool) → eqb other slot ≡ t → HasFilters mirror2 other order.newest order.filters
      pick other order is true at = let same = eqb-true other slot at in
          subst (λ (k : ℕ). HasFilters mirror2 k order.newest order.filters) (sym same)
          (e.known order (sym order_own ∙ (ap (λ (k : ℕ). get_or orders2 k None) (sym same) ∙ is)))
      pick other order is false at = let away = eqb-false other slot at in
          e.lists other order.newest order.filters away (e.told.known other order (sym (order_other other away) ∙ is))

  module _ (writer2 : Masks) (shown2 : writer2.at ≡ all_standing mirror2 mirror2.slots.items orders2) where
    -- the edited mask's filters
    pub holds_after : (last : ℕ) (fs : List StoredFilter) (order : Order) → after ≡ Some order → order.filters ≡ fs → order.newest ≤ last → Holds writer2 slot last fs
    holds_after last fs order is filters late = holds_shown writer2 mirror2 orders2 shown2 told_again slot last fs order (order_own ∙ is) filters late

    pub order_after : (kept : KeptMask) → Stands mirror2 slot kept → order_at writer2 slot ≡ after
    order_after kept stands = order_is writer2 mirror2 orders2 shown2 slot kept stands ∙ order_own

    -- and those of the others
    pub holds_others : (writer : Masks) → writer.at ≡ all_standing mirror mirror.slots.items orders → (other last : ℕ) (fs : List StoredFilter) → other ≢ slot
        → Holds writer other last fs → Holds writer2 other last fs
    holds_others writer shown other last fs away has =
        let is = sym (order_is writer mirror orders shown other has.kept (stands_kept writer mirror orders shown other has.kept has.stands)) ∙ has.told in
        holds_shown writer2 mirror2 orders2 shown2 told_again other last fs has.order (order_other other away ∙ is) has.filters has.late

-- what was told of a mask that holds filters
pub told_before : (writer : Masks) (mirror : Mirror) (orders : List (Option Order)) (shown : writer.at ≡ all_standing mirror mirror.slots.items orders) (slot last : ℕ) (fs : List StoredFilter)
    → (has : Holds writer slot last fs) → get_or orders slot None ≡ Some has.order
told_before writer mirror orders shown slot last fs has = sym (order_is writer mirror orders shown slot has.kept (stands_kept writer mirror orders shown slot has.kept has.stands)) ∙ has.told

-- ---- the edits
module _ (mirror mirror2 : Mirror) (orders orders2 : List (Option Order)) (slot : ℕ) (small : slot < MASK_SLOTS) (told : IsTold mirror orders)
    (kept : (shape : Shape) × (cells : List ℕ) × (roots : ℕ → Named) × IsKept mirror2 shape cells roots)
    (lists : (other last : ℕ) (fs : List StoredFilter) → other ≢ slot → HasFilters mirror other last fs → HasFilters mirror2 other last fs) where
  abbrev before : Option Order
  before = get_or orders slot None

  abbrev Changes : Option Order → Type 0
  Changes after = orders2 ≡ set orders slot after

  abbrev Edits : Option Order → Type 0
  Edits after = IsEdit mirror mirror2 orders orders2 slot after

  pub begun_edit : (fs : List StoredFilter) (edit : ℕ) → Changes (begun before fs edit) → HasFilters mirror2 slot edit fs → Edits (begun before fs edit)
  begun_edit fs edit changed has = record {
    small = small;
    told = told;
    changed = changed;
    kept = kept;
    lists = lists;
    known = λ order is. let same : record { filters = fs; newest = edit } ≡ order = cc is in subst (λ (o : Order). HasFilters mirror2 slot o.newest o.filters) same has;
  }

  pub ended_edit : Changes (ended before [] 0) → Edits (ended before [] 0)
  ended_edit changed = record { small = small; told = told; changed = changed; kept = kept; lists = lists; known = λ order is. absurd (cc is) }

  -- nothing is told anew
  pub same_edit : orders2 ≡ orders → ((last : ℕ) (fs : List StoredFilter) → HasFilters mirror slot last fs → HasFilters mirror2 slot last fs) → Edits before
  same_edit same list = record {
    small = small;
    told = told;
    changed = same ∙ sym (set-get_or orders slot None);
    kept = kept;
    lists = lists;
    known = λ order is. list order.newest order.filters (told.known slot order is);
  }

  pub joined_edit : (filter : StoredFilter) (edit : ℕ) → Changes (joined before (filter ∷ []) edit)
      → ((last : ℕ) (fs : List StoredFilter) → HasFilters mirror slot last fs → last < edit → HasFilters mirror2 slot edit (fs ++ filter ∷ [])) → Edits (joined before (filter ∷ []) edit)
  joined_edit filter edit changed list = record {
    small = small;
    told = told;
    changed = changed;
    kept = kept;
    lists = lists;
    known = λ order is. let j = joined_from before (filter ∷ []) edit order is in subst (λ (o : Order). HasFilters mirror2 slot o.newest o.filters) j.same
        (list j.order.newest j.order.filters (told.known slot j.order j.known) j.later);
  }

  pub without_edit : (handle : ℕ) → Changes (without before [] handle)
      → ((last : ℕ) (earlier : List StoredFilter) (old : StoredFilter) (later : List StoredFilter) → HasFilters mirror slot last (earlier ++ old ∷ later) → old.handle ≡ handle
      → HasNone handle (earlier ++ later) → HasFilters mirror2 slot last (earlier ++ later)) → Edits (without before [] handle)
  without_edit handle changed list = record {
    small = small;
    told = told;
    changed = changed;
    kept = kept;
    lists = lists;
    known = λ order is. let w = without_from before [] handle order is in let f = w.filters in
        subst (HasFilters mirror2 slot order.newest) f.result (subst (λ (n : ℕ). HasFilters mirror2 slot n (f.earlier ++ f.later)) w.newest
        (list w.order.newest f.earlier f.old f.later (subst (HasFilters mirror slot w.order.newest) f.whole (told.known slot w.order w.known)) f.named f.none));
  }

  pub exchanged_edit : (filter : StoredFilter) (number : ℕ) → Changes (exchanged before (filter ∷ []) number)
      → ((last : ℕ) (earlier : List StoredFilter) (old : StoredFilter) (later : List StoredFilter) → HasFilters mirror slot last (earlier ++ old ∷ later) → old.handle ≡ filter.handle
      → old.key.words ≡ filter.key.words → HasNone filter.handle (earlier ++ later) → HasFilters mirror2 slot last (earlier ++ filter ∷ later)) → Edits (exchanged before (filter ∷ []) number)
  exchanged_edit filter number changed list = record {
    small = small;
    told = told;
    changed = changed;
    kept = kept;
    lists = lists;
    known = λ order is. let w = exchanged_from before filter number order is in let f = w.filters in
        subst (HasFilters mirror2 slot order.newest) f.result (subst (λ (n : ℕ). HasFilters mirror2 slot n (f.earlier ++ filter ∷ f.later)) w.newest
        (list w.order.newest f.earlier f.old f.later (subst (HasFilters mirror slot w.order.newest) f.whole (told.known slot w.order w.known)) f.named (key_is filter f.old f.met) f.none));
  }

  -- what is seen of them
  module _ (writer writer2 : Masks) (shown : writer.at ≡ all_standing mirror mirror.slots.items orders) (shown2 : writer2.at ≡ all_standing mirror2 mirror2.slots.items orders2) where
    pub joined_list : (filter : StoredFilter) (edit : ℕ) → Edits (joined before (filter ∷ []) edit) → (last : ℕ) (fs : List StoredFilter) → Holds writer slot last fs → last < edit
        → Holds writer2 slot edit (fs ++ filter ∷ [])
    joined_list filter edit e last fs has later = let late = has.late in
        holds_after mirror mirror2 orders orders2 slot (joined before (filter ∷ []) edit) e writer2 shown2 edit (fs ++ filter ∷ []) (record { filters = has.order.filters ++ filter ∷ []; newest = edit })
        (joined_known before has.order (filter ∷ []) edit (told_before writer mirror orders shown slot last fs has) (omega arith)) (ap (λ (xs : List StoredFilter). xs ++ filter ∷ []) has.filters) (omega arith)

    pub without_list : (handle : ℕ) → Edits (without before [] handle) → (last : ℕ) (earlier : List StoredFilter) (old : StoredFilter) (later : List StoredFilter) → Holds writer slot last (earlier ++ old ∷ later)
        → old.handle ≡ handle → HasNone handle (earlier ++ later) → Holds writer2 slot last (earlier ++ later)
    without_list handle e last earlier old later has named none =
        holds_after mirror mirror2 orders orders2 slot (without before [] handle) e writer2 shown2 last (earlier ++ later) (record { filters = earlier ++ later; newest = has.order.newest })
        (without_known before has.order [] handle earlier old later (told_before writer mirror orders shown slot last (earlier ++ old ∷ later) has) has.filters named none) refl has.late

    pub exchanged_list : (filter : StoredFilter) (number : ℕ) → Edits (exchanged before (filter ∷ []) number) → (last : ℕ) (earlier : List StoredFilter) (old : StoredFilter) (later : List StoredFilter)
        → Holds writer slot last (earlier ++ old ∷ later) → old.handle ≡ filter.handle → old.key.words ≡ filter.key.words → HasNone filter.handle (earlier ++ later)
        → Holds writer2 slot last (earlier ++ filter ∷ later)
    exchanged_list filter number e last earlier old later has named key none =
        holds_after mirror mirror2 orders orders2 slot (exchanged before (filter ∷ []) number) e writer2 shown2 last (earlier ++ filter ∷ later) (record { filters = earlier ++ filter ∷ later; newest = has.order.newest })
        (exchanged_known before has.order filter number earlier old later (told_before writer mirror orders shown slot last (earlier ++ old ∷ later) has) has.filters named key none) refl has.late

    pub same_list : Edits before → (last : ℕ) (fs : List StoredFilter) → Holds writer slot last fs → Holds writer2 slot last fs
    same_list e last fs has = holds_after mirror mirror2 orders orders2 slot before e writer2 shown2 last fs has.order (told_before writer mirror orders shown slot last fs has) has.filters has.late
