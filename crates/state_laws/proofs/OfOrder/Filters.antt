-- A filter is added, replaced or taken out alike.
use Rattle.std.proofs.Common.{◌≡◌, ℕ, ◌==◌, ◌&&◌, Bool, true, false, not, cond, List, [], ◌∷◌, Option, Some, None, Ok, refl, ap, subst}
use Rattle.std.specs.Option.{unwrap_or}
use Rattle.std.specs.Str.{bytes_eq}
use Rattle.tc_base.specs.declared.hook.Hook.{Hook}
use Rattle.tc_base.specs.declared.hook.Proto.{Proto}
use Rattle.filter_state.specs.declared.edit.FilterLine.{FilterLine}
use Rattle.filter_state.specs.States.{Row, State}
use Rattle.filter_state.specs.Sound.{EachPair, GoTogether}
use Rattle.filter_state.specs.Actions.{all_unbound, Resolved}
use Rattle.filter_state.specs.Tables.{in_table, has_handle, filter_row}
use Rattle.filter_state.specs.Refusals.{no_hook, actions_full, counters_full, or_else}
use Rattle.filter_state.specs.Steps.{Stepped, with_actions, resolved_for, row_of, with_row, filter_added, add_resolved, add_at, filter_add, with_new_actions, without_row, mask_serial_for, filter_replaced, replace_resolved, replace_at, replace_or_add, filter_replace, taken_out, filter_del}
use Rattle.filter_state.specs.Order.{SameRows, SameState, SameStepped}
use Rattle.state_laws.proofs.OfOrder.Same.{filter_same, same_append, change_same}
use Rattle.state_laws.proofs.OfOrder.First.{table_same, mask_same, row_same}
use Rattle.state_laws.proofs.OfOrder.Unbinding.{unbound_same}
use Rattle.state_laws.proofs.OfOrder.States.{with_rows, rows_only}
use Rattle.state_laws.proofs.OfOrder.Refused.{both_refuse, protocol_clash_same, clash_if_same, no_table_same, no_filter_same, taken_same, exists_but_same, tables_full_same, masks_full_same, filters_full_same, pref_same, handle_same, unless_one, unless_both, then_one, then_both}
use Rattle.filter_state.specs.declared.refusal.Done.TheVariants as dones

-- ---- a filter more
abbrev added : State → FilterLine → ℕ → Resolved → ℕ → ℕ → ℕ → Stepped
added s line pref r table mask handle = Ok (with_actions (with_row s (row_of line pref table mask handle r.serials)) r.so_far, dones.Filter pref handle r.serials)

added_one : (s : State) {rows : List Row} → SameRows s.rows rows → (line : FilterLine) (pref : ℕ) (r : Resolved) (table mask handle : ℕ) →
    SameStepped (added s line pref r table mask handle) (added (with_rows s rows) line pref r table mask handle)
added_one s same line pref r table mask handle =
    let row : Row = row_of line pref table mask handle r.serials in
    (rows_only (with_actions (with_row s row) r.so_far) _ (same_append (row ∷ []) same), refl)

added_alike : (s : State) {rows : List Row} → SameRows s.rows rows → (line : FilterLine) (pref : ℕ) (r : Resolved) {table mask handle first second third : ℕ} →
    table ≡ first → mask ≡ second → handle ≡ third → SameStepped (added s line pref r table mask handle) (added (with_rows s rows) line pref r first second third)
added_alike s {rows = rows} same line pref r {table = table} {mask = mask} {handle = handle} {first = first} {second = second} d e f =
    let start : Stepped = added s line pref r table mask handle in
    subst (λ n. SameStepped start (added (with_rows s rows) line pref r first second n)) f
    (subst (λ n. SameStepped start (added (with_rows s rows) line pref r first n handle)) e
    (subst (λ n. SameStepped start (added (with_rows s rows) line pref r n mask handle)) d (added_one s same line pref r table mask handle)))

filter_added_same : (s : State) {rows : List Row} → SameRows s.rows rows → EachPair GoTogether s.rows → (line : FilterLine) (pref : ℕ) (r : Resolved) →
    SameStepped (filter_added s line pref r) (filter_added (with_rows s rows) line pref r)
filter_added_same s same pairs line pref r =
    added_alike s same line pref r (table_same line.hook line.chain pref s.tables_made same pairs)
    (mask_same line.hook line.chain pref line.mask.words s.masks_made same pairs) (handle_same s same line.hook line.chain pref line.handle)

add_resolved_same : (s : State) {rows : List Row} → SameRows s.rows rows → EachPair GoTogether s.rows → (line : FilterLine) (pref : ℕ) (r : Resolved) →
    SameStepped (add_resolved s line pref r) (add_resolved (with_rows s rows) line pref r)
add_resolved_same s {rows = rows} same pairs line pref r =
    unless_both (both_refuse (tables_full_same s same line.hook line.chain pref)
    (both_refuse (masks_full_same s same pairs line.hook line.chain pref line.mask.words)
    (ap (λ o. or_else o (or_else (actions_full r.so_far) (counters_full r.so_far))) (filters_full_same s same))))
    (filter_added s line pref r) (filter_added (with_rows s rows) line pref r) (filter_added_same s same pairs line pref r)

add_at_same : (s : State) {rows : List Row} → SameRows s.rows rows → EachPair GoTogether s.rows → (line : FilterLine) (pref : ℕ) →
    SameStepped (add_at s line pref) (add_at (with_rows s rows) line pref)
add_at_same s {rows = rows} same pairs line pref =
    unless_both (both_refuse (protocol_clash_same s same pairs line.hook line.chain pref line.protocol)
    (both_refuse (taken_same s same line.hook line.chain pref line.handle) (exists_but_same s same pairs line.hook line.chain pref None line.mask.words line.key.words)))
    _ _ (then_one (resolved_for s line.actions) (add_resolved s line pref) (add_resolved (with_rows s rows) line pref) (add_resolved_same s same pairs line pref))

pub filter_add_same : (s : State) {rows : List Row} → SameRows s.rows rows → EachPair GoTogether s.rows → (line : FilterLine) →
    SameStepped (filter_add s line) (filter_add (with_rows s rows) line)
filter_add_same s {rows = rows} same pairs line =
    unless_one (no_hook s) _ _ (then_both (pref_same s same line.hook line.chain line.pref) (add_at s line) (add_at (with_rows s rows) line) (add_at_same s same pairs line))

-- ---- a filter in another's place
abbrev is_row : Row → Row → Bool
is_row old row = row.table == old.table && row.handle == old.handle

-- in its place, or at the end with that serial of its mask
abbrev replaced : State → FilterLine → Row → List ℕ → ℕ → Bool → State
replaced s line old serials mask stays =
    cond stays (record s { rows = with_new_actions old serials s.rows })
    (with_row (record s { rows = without_row old s.rows }) (row_of line old.pref old.table mask old.handle serials))

abbrev replaced_to : State → FilterLine → Row → Resolved → ℕ → Bool → State
replaced_to s line old r mask stays = with_actions (replaced s line old r.serials mask stays) (record r.so_far { actions = all_unbound old.actions r.so_far.actions })

replaced_one : (s : State) {rows : List Row} → SameRows s.rows rows → (line : FilterLine) (old : Row) (r : Resolved) (mask : ℕ) (stays : Bool) →
    SameState (replaced_to s line old r mask stays) (replaced_to (with_rows s rows) line old r mask stays)
replaced_one s same line old r mask true =
    rows_only (replaced_to s line old r mask true) _ (change_same (is_row old) (λ row. record row { actions = r.serials }) (λ row. refl) same)
replaced_one s same line old r mask false =
    rows_only (replaced_to s line old r mask false) _ (same_append (row_of line old.pref old.table mask old.handle r.serials ∷ []) (filter_same (λ row. not (is_row old row)) same))

mask_for_same : (s : State) {rows : List Row} → SameRows s.rows rows → EachPair GoTogether s.rows → (line : FilterLine) (old : Row) →
    mask_serial_for s line old ≡ mask_serial_for (with_rows s rows) line old
mask_for_same s same pairs line old =
    ap (λ n. cond (bytes_eq old.mask line.mask.words) old.mask_serial n) (mask_same old.hook old.chain old.pref line.mask.words s.masks_made same pairs)

filter_replaced_same : (s : State) {rows : List Row} → SameRows s.rows rows → EachPair GoTogether s.rows → (line : FilterLine) (old : Row) (r : Resolved) →
    SameStepped (filter_replaced s line old r) (filter_replaced (with_rows s rows) line old r)
filter_replaced_same s {rows = rows} same pairs line old r =
    let stays : Bool = bytes_eq old.mask line.mask.words && bytes_eq old.key line.key.words in
    let start : State = replaced_to s line old r (mask_serial_for s line old) stays in (
      subst (λ n. SameState start (replaced_to (with_rows s rows) line old r n stays)) (mask_for_same s same pairs line old)
          (replaced_one s same line old r (mask_serial_for s line old) stays),
      refl,
    )

replace_resolved_same : (s : State) {rows : List Row} → SameRows s.rows rows → EachPair GoTogether s.rows → (line : FilterLine) (old : Row) (r : Resolved) →
    SameStepped (replace_resolved s line old r) (replace_resolved (with_rows s rows) line old r)
replace_resolved_same s {rows = rows} same pairs line old r =
    unless_both (ap (λ o. or_else o (or_else (actions_full r.so_far) (counters_full r.so_far))) (masks_full_same s same pairs line.hook line.chain old.pref line.mask.words))
    (filter_replaced s line old r) (filter_replaced (with_rows s rows) line old r) (filter_replaced_same s same pairs line old r)

replace_at_same : (s : State) {rows : List Row} → SameRows s.rows rows → EachPair GoTogether s.rows → (line : FilterLine) (old : Row) →
    SameStepped (replace_at s line old) (replace_at (with_rows s rows) line old)
replace_at_same s {rows = rows} same pairs line old =
    unless_both (ap (λ o. or_else (no_hook s) o) (both_refuse (protocol_clash_same s same pairs line.hook line.chain old.pref line.protocol)
    (exists_but_same s same pairs line.hook line.chain old.pref (Some old.handle) line.mask.words line.key.words)))
    _ _ (then_one (resolved_for s line.actions) (replace_resolved s line old) (replace_resolved (with_rows s rows) line old) (replace_resolved_same s same pairs line old))

replace_or_add_same : (s : State) {rows : List Row} → SameRows s.rows rows → EachPair GoTogether s.rows → (line : FilterLine) (old : Option Row) →
    SameStepped (replace_or_add s line old) (replace_or_add (with_rows s rows) line old)
replace_or_add_same s same pairs line (Some old) = replace_at_same s same pairs line old
replace_or_add_same s same pairs line None = filter_add_same s same pairs line

pub filter_replace_same : (s : State) {rows : List Row} → SameRows s.rows rows → EachPair GoTogether s.rows → (line : FilterLine) →
    SameStepped (filter_replace s line) (filter_replace (with_rows s rows) line)
filter_replace_same s {rows = rows} same pairs line =
    let old : Option Row = filter_row line.hook line.chain (unwrap_or line.pref 0) (unwrap_or line.handle 0) s.rows in
    subst (λ o. SameStepped (replace_or_add s line old) (replace_or_add (with_rows s rows) line o))
    (row_same line.hook line.chain (unwrap_or line.pref 0) (unwrap_or line.handle 0) same pairs) (replace_or_add_same s same pairs line old)

-- ---- filters out of their places
taken_out_same : (s : State) {rows : List Row} → SameRows s.rows rows → (gone : Row → Bool) → SameState (taken_out s gone) (taken_out (with_rows s rows) gone)
taken_out_same s same gone = record {
  hooked = refl;
  rows = filter_same (λ row. not (gone row)) same;
  actions = unbound_same (filter_same gone same) s.actions;
  tables_made = refl;
  masks_made = refl;
  actions_made = refl;
}

pub filter_del_same : (s : State) {rows : List Row} → SameRows s.rows rows → EachPair GoTogether s.rows → (hook : Hook) (protocol : Option Proto) (chain pref : ℕ) (handle : Option ℕ) →
    SameStepped (filter_del s hook protocol chain pref handle) (filter_del (with_rows s rows) hook protocol chain pref handle)
filter_del_same s same pairs hook protocol chain pref (Some handle) =
    unless_both (ap (λ o. or_else (no_hook s) o) (both_refuse (clash_if_same s same pairs hook chain pref protocol)
    (both_refuse (no_table_same s same hook chain pref) (no_filter_same s same hook chain pref handle))))
    _ _ (taken_out_same s same (λ row. in_table hook chain pref row && has_handle handle row), refl)
filter_del_same s same pairs hook protocol chain pref None =
    unless_both (ap (λ o. or_else (no_hook s) o) (both_refuse (clash_if_same s same pairs hook chain pref protocol) (no_table_same s same hook chain pref)))
    _ _ (taken_out_same s same (in_table hook chain pref), refl)
