-- Where the filter goes: the change leads to the rows that the step leads to.
use Rattle.std.proofs.Common.{◌≡◌, ℕ, zero, suc, ◌+◌, ◌<◌, ◌||◌, Bool, true, false, cond, List, [], ◌∷◌, length, Option, Some, None, is_some, refl, sym, ◌∙◌, ap, subst}
use Rattle.std.specs.Prelude.{find}
use Rattle.std.specs.List.{list_any}
use Rattle.std.specs.Str.{bytes_eq}
use Rattle.std.proofs.lemmas.Bool.{false≢true}
use Rattle.std.proofs.lemmas.Option.{none-some, same_Some}
use Rattle.tc_base.specs.declared.hook.Hook.{Hook}
use Rattle.tc_base.specs.declared.hook.Hook.TheVariants as hooks
use Rattle.tc_base.specs.declared.hook.Proto.{Proto}
use Rattle.filter_state.specs.declared.edit.FilterLine.{FilterLine}
use Rattle.filter_state.specs.States.{Row, State}
use Rattle.filter_state.specs.Tables.{mask_row, mask_or_next}
use Rattle.filter_state.specs.Steps as steps
use Rattle.filter_index.specs.declared.filter.Filter.{Filter}
use Rattle.filter_index.specs.Listed as listed
use Rattle.filter_index.specs.Listed.{FilterRoom}
use Rattle.filter_tables.specs.Plain.{PlainMask, PlainTable}
use Rattle.filter_tables.specs.Places.{item_at, place_where}
use Rattle.filter_tables.specs.Changes.{has_words}
use Rattle.filter_tables.specs.Room.{masks_spare, filters_spare}
use Rattle.filter_tables.specs.Rows.{tables_on, row_of, all_rows}
use Rattle.row_laws.specs.OfLookups.Asked.{unless_left_out}
use Rattle.row_laws.proofs.OfLookups.Masks.{mask_found, mask_some}
use Rattle.row_laws.proofs.OfLookups.Tables.{full_at}
use Rattle.row_laws.proofs.OfLookups.Together.{bytes_eq_true, table_together}
use Rattle.hook_lists.specs.declared.kept.Kept.{Kept}
use Rattle.hook_lists.specs.States.{both_of, room_on, state_of, AreKept}
use Rattle.hook_lists.specs.Steps.{IsRoomier}
use Rattle.hook_lists.proofs.Asked.{existing, exists_found}
use Rattle.hook_lists.proofs.Sought.{place_within, place_nowhere, place_passes}
use Rattle.filter_lists.specs.declared.adding.arrival.Arrival.{Arrival}
use Rattle.filter_lists.specs.OfAdding.Arrivals.{row_of_arrival, IsEmptyRoom}
use Rattle.filter_lists.specs.declared.replacing.replacement.Change.TheVariants as changes
use Rattle.filter_lists.specs.declared.replacing.replacement.Old.{Old}
use Rattle.filter_lists.specs.OfReplacing.Replacements.{IsArrival}
use Rattle.filter_lists.specs.OfReplacing.Planning.{is_same, arrival_of, IsAllowed, Leaves, HasChange}
use Rattle.filter_lists.proofs.OfReplacing.Seeking.{item_within}
use Rattle.filter_lists.proofs.OfReplacing.Looking.{table_is_at, its_handle}
use Rattle.filter_lists.proofs.OfReplacing.Keys.{same_mask, keys_differ, no_other}

-- ---- more room leaves the tables
pub same_tables : (start now : Kept) (hook : Hook) → IsRoomier start now → tables_on hook (both_of now) ≡ tables_on hook (both_of start)
same_tables start now hooks.Ingress roomier = roomier.ingress
same_tables start now hooks.Egress roomier = roomier.egress

-- ---- the row
abbrev row_with : FilterLine → PlainTable → ℕ → List ℕ → Hook → ℕ → Proto → ℕ → Row
row_with line t handle actions hook chain protocol serial = record {
  hook = hook;
  chain = chain;
  pref = t.pref;
  protocol = protocol;
  table = t.serial;
  mask_serial = serial;
  mask = line.mask.words;
  handle = handle;
  key = line.key.words;
  actions = actions;
}

or_parts : (a b : Bool) → (a || b) ≡ false → b ≡ false
or_parts true b e = absurd (false≢true (sym e))
or_parts false b e = e

nothing_passes : {X : Type 0} (test : X → Bool) (xs : List X) (place : ℕ) (x : X) → list_any test xs ≡ false → item_at xs place ≡ Some x → test x ≡ true → ⊥
nothing_passes test [] place x none at is = none-some x at
nothing_passes test (y ∷ ys) zero x none at is =
    let head : test y ≡ true = subst (λ z. test z ≡ true) (sym (same_Some y x at)) is in
    false≢true (sym none ∙ ap (λ b. b || list_any test ys) head)
nothing_passes test (y ∷ ys) (suc place) x none at is = nothing_passes test ys place x (or_parts (test y) (list_any test ys) none) at is

own_or_other : (b : Bool) (own other serial : ℕ) → (b ≡ true → own ≡ serial) → other ≡ serial → cond b own other ≡ serial
own_or_other true own other serial here there = here refl
own_or_other false own other serial here there = there

next_serial : (row : Option Row) (made : ℕ) → is_some row ≡ false → mask_or_next row made ≡ made + 1
next_serial None made none = refl
next_serial (Some row) made none = absurd (false≢true (sym none))

none_existing : (o : Option ℕ) → existing o ≡ None → o ≡ None
none_existing None e = refl
none_existing (Some n) e = absurd (none-some _ (sym e))

module _ (kept : Kept) (line : FilterLine) (old : Old) (t : PlainTable) (m : PlainMask) (f : Filter) (are : AreKept kept) (allowed : IsAllowed kept line old t m f) where
  here : item_at (tables_on old.hook (both_of kept)) old.table ≡ Some t
  here = allowed.stands.table_stands

  -- the row that comes is the step's, under the serial of its mask
  arrival_row : (serial : ℕ) (actions : List ℕ) → serial ≡ steps.mask_serial_for (state_of kept) line (row_of old.hook t m f) →
      row_of_arrival (arrival_of line old t serial actions) ≡ steps.row_of line t.pref t.serial (steps.mask_serial_for (state_of kept) line (row_of old.hook t m f)) f.handle actions
  arrival_row serial actions same =
      ap (λ n. row_with line t n actions old.hook t.chain t.protocol serial) (sym (its_handle kept old t m f allowed.stands))
      ∙ ap (λ h. row_with line t f.handle actions h t.chain t.protocol serial) allowed.hook
      ∙ ap (λ n. row_with line t f.handle actions line.hook n t.protocol serial) (allowed.stands.chain ∙ allowed.chain)
      ∙ ap (λ p. row_with line t f.handle actions line.hook line.chain p serial) allowed.protocol
      ∙ ap (λ n. row_with line t f.handle actions line.hook line.chain line.protocol n) same

  rows_go : (serial : ℕ) (actions : List ℕ) → is_same line m f ≡ false → serial ≡ steps.mask_serial_for (state_of kept) line (row_of old.hook t m f) →
      steps.with_row (record (state_of kept) { rows = steps.without_row (row_of old.hook t m f) (state_of kept).rows }) (row_of_arrival (arrival_of line old t serial actions))
      ≡ steps.with_replaced (state_of kept) line (row_of old.hook t m f) actions
  rows_go serial actions other same =
      let left : State = record (state_of kept) { rows = steps.without_row (row_of old.hook t m f) (state_of kept).rows } in
      let stays : State = record (state_of kept) { rows = steps.with_new_actions (row_of old.hook t m f) actions (state_of kept).rows } in
      let goes : State = steps.with_row left (steps.row_of line t.pref t.serial (steps.mask_serial_for (state_of kept) line (row_of old.hook t m f)) f.handle actions) in
      ap (steps.with_row left) (arrival_row serial actions same) ∙ sym (ap (λ b. cond b stays goes) other)

  is_arrival : (serial : ℕ) (actions : List ℕ) → IsArrival old t (arrival_of line old t serial actions)
  is_arrival serial actions = record { hook = refl; chain = refl; pref = refl; protocol = refl; serial = refl; handle = refl }

  -- ---- to a mask that is there
  to_serial : (to : ℕ) (n : PlainMask) → place_where (has_words line.mask.words) t.masks ≡ Some to → item_at t.masks to ≡ Some n →
      n.serial ≡ steps.mask_serial_for (state_of kept) line (row_of old.hook t m f)
  to_serial to n placed there =
      sym (own_or_other (bytes_eq m.mask line.mask.words) m.serial
      (mask_or_next (mask_row old.hook t.chain t.pref line.mask.words (all_rows (both_of kept))) kept.masks_made) n.serial
      (λ own. ap (λ (k : PlainMask). k.serial)
      (same_mask old.hook t (full_at (both_of kept) old.hook old.table t are.whole here) (table_together (both_of kept) old.hook old.table t are.whole are.sound.together here)
      line.mask.words old.mask to m n allowed.stands.mask_stands there own (place_passes (has_words line.mask.words) t.masks to n placed there)))
      (mask_found (both_of kept) old.hook old.table to kept.masks_made line.mask.words t n are.whole are.sound.together here placed there))

  key_free : (to : ℕ) (n : PlainMask) → place_where (has_words line.mask.words) t.masks ≡ Some to → item_at t.masks to ≡ Some n →
      list_any (listed.has_key line.key.words) (listed.without old.handle n.filters) ≡ false
  key_free to n placed there =
      no_other old.handle line.key.words n.filters
      (keys_differ old.hook t (full_at (both_of kept) old.hook old.table t are.whole here) (table_together (both_of kept) old.hook old.table t are.whole are.sound.together here)
      line.mask.words line.key.words to n there (place_passes (has_words line.mask.words) t.masks to n placed there))
      (none_existing (unless_left_out (Some old.handle) (find (listed.has_key line.key.words) n.filters))
      (sym (exists_found kept old.hook old.chain old.pref old.table to (Some old.handle) line.mask.words line.key.words t n are (table_is_at kept old t m f are allowed.stands) placed there)
      ∙ allowed.alone))

  moves : (now : Kept) (to : ℕ) (n : PlainMask) (actions : List ℕ) → is_same line m f ≡ false → place_where (has_words line.mask.words) t.masks ≡ Some to → item_at t.masks to ≡ Some n →
      0 < filters_spare (room_on old.hook now).spares old.table to → HasChange kept now line old actions (changes.Moves to (arrival_of line old t n.serial actions))
  moves now to n actions other placed there room = (
    t,
    m,
    f,
    record {
      allowed = allowed;
      place = (n, is_arrival n.serial actions, there, refl, bytes_eq_true n.mask line.mask.words (place_passes (has_words line.mask.words) t.masks to n placed there), key_free to n placed there, room);
      rows = rows_go n.serial actions other (to_serial to n placed there);
    },
  )

  -- ---- to a new mask
  new_serial : place_where (has_words line.mask.words) t.masks ≡ None → kept.masks_made + 1 ≡ steps.mask_serial_for (state_of kept) line (row_of old.hook t m f)
  new_serial none =
      sym (own_or_other (bytes_eq m.mask line.mask.words) m.serial
      (mask_or_next (mask_row old.hook t.chain t.pref line.mask.words (all_rows (both_of kept))) kept.masks_made) (kept.masks_made + 1)
      (λ own. absurd (nothing_passes (has_words line.mask.words) t.masks old.mask m (place_nowhere (has_words line.mask.words) t.masks none) allowed.stands.mask_stands own))
      (next_serial (mask_row old.hook t.chain t.pref line.mask.words (all_rows (both_of kept))) kept.masks_made
      (mask_some (both_of kept) old.hook old.table line.mask.words t are.whole here ∙ ap (λ (o : Option ℕ). is_some o) none)))

  moves_out : (now : Kept) (filters : FilterRoom) (actions : List ℕ) → is_same line m f ≡ false → place_where (has_words line.mask.words) t.masks ≡ None → now.masks_made ≡ kept.masks_made →
      IsEmptyRoom filters → 0 < masks_spare (room_on old.hook now).spares old.table →
      HasChange kept now line old actions (changes.MovesOut filters (arrival_of line old t (now.masks_made + 1) actions))
  moves_out now filters actions other none made empty room = (
    t,
    m,
    f,
    record {
      allowed = allowed;
      place = (is_arrival (now.masks_made + 1) actions, refl, empty, room);
      rows = rows_go (now.masks_made + 1) actions other (ap (λ n. n + 1) made ∙ new_serial none);
    },
  )

-- ---- once there is room
module _ (start now : Kept) (line : FilterLine) (old : Old) (roomier : IsRoomier start now) where
  table_now : (t : PlainTable) → item_at (tables_on old.hook (both_of start)) old.table ≡ Some t → item_at (tables_on old.hook (both_of now)) old.table ≡ Some t
  table_now t at = subst (λ tables. item_at tables old.table ≡ Some t) (sym (same_tables start now old.hook roomier)) at

  pub table_within : (to : Option ℕ) → Leaves start line old to → old.table < length (tables_on old.hook (both_of now))
  table_within to (t, m, f, allowed, other, placed) = item_within (tables_on old.hook (both_of now)) old.table t (table_now t allowed.stands.table_stands)

  its_table : (t u : PlainTable) → item_at (tables_on old.hook (both_of start)) old.table ≡ Some t → item_at (tables_on old.hook (both_of now)) old.table ≡ Some u → t ≡ u
  its_table t u at there = same_Some t u (sym (table_now t at) ∙ there)

  pub to_within : (to : ℕ) (u : PlainTable) → Leaves start line old (Some to) → item_at (tables_on old.hook (both_of now)) old.table ≡ Some u → to < length u.masks
  to_within to u (t, m, f, allowed, other, placed) there =
      subst (λ (v : PlainTable). to < length v.masks) (its_table t u allowed.stands.table_stands there) (place_within (has_words line.mask.words) t.masks to placed)

  pub moved_to : (to : ℕ) (actions : List ℕ) (u : PlainTable) (n : PlainMask) (a : Arrival) → AreKept start → Leaves start line old (Some to) →
      item_at (tables_on old.hook (both_of now)) old.table ≡ Some u → item_at u.masks to ≡ Some n →
      ((t : PlainTable) → item_at (tables_on old.hook (both_of now)) old.table ≡ Some t → a ≡ arrival_of line old t n.serial actions) →
      0 < filters_spare (room_on old.hook now).spares old.table to → HasChange start now line old actions (changes.Moves to a)
  moved_to to actions u n a are (t, m, f, allowed, other, placed) there inside comes room =
      subst (λ b. HasChange start now line old actions (changes.Moves to b)) (sym (comes t (table_now t allowed.stands.table_stands)))
      (moves start line old t m f are allowed now to n actions other placed
      (subst (λ (v : PlainTable). item_at v.masks to ≡ Some n) (sym (its_table t u allowed.stands.table_stands there)) inside) room)

  pub moved_out : (filters : FilterRoom) (actions : List ℕ) (a : Arrival) → AreKept start → Leaves start line old None →
      ((t : PlainTable) → item_at (tables_on old.hook (both_of now)) old.table ≡ Some t → a ≡ arrival_of line old t (now.masks_made + 1) actions) →
      IsEmptyRoom filters → 0 < masks_spare (room_on old.hook now).spares old.table → HasChange start now line old actions (changes.MovesOut filters a)
  moved_out filters actions a are (t, m, f, allowed, other, placed) comes empty room =
      subst (λ b. HasChange start now line old actions (changes.MovesOut filters b)) (sym (comes t (table_now t allowed.stands.table_stands)))
      (moves_out start line old t m f are allowed now filters actions other placed roomier.masks_made empty room)

pub to_there : (start : Kept) (line : FilterLine) (old : Old) (to : ℕ) → Leaves start line old (Some to) → (u : PlainTable) →
    item_at (tables_on old.hook (both_of start)) old.table ≡ Some u → to < length u.masks
to_there start line old to (t, m, f, allowed, other, placed) u there =
    subst (λ (v : PlainTable). to < length v.masks) (same_Some t u (sym allowed.stands.table_stands ∙ there)) (place_within (has_words line.mask.words) t.masks to placed)
