-- A filter is added.
use Rattle.std.proofs.Common.{◌≡◌, ℕ, true, not, ◌&&◌, List, [], ◌∷◌, ◌++◌, length, Option, None, Ok, refl, sym, ◌∙◌, ltb-false, leb-false}
use Rattle.std.specs.Prelude.{nat_le, nat_lt}
use Rattle.filter_state.specs.declared.edit.FilterLine.{FilterLine}
use Rattle.filter_state.specs.declared.refusal.Refusal.{Refusal}
use Rattle.filter_state.specs.declared.refusal.Refusal.TheVariants as refusals
use Rattle.filter_state.specs.States.{State, Row}
use Rattle.filter_state.specs.Lines.{IsPref, IsFilter}
use Rattle.filter_state.specs.Actions.{Resolved, Made, and_then}
use Rattle.filter_state.specs.Tables.{in_table, has_mask, table_row, mask_row, table_or_next, mask_or_next}
use Rattle.filter_state.specs.Refusals.{or_else, no_hook, protocol_clash, handle_taken, exists_but, tables_full, masks_full, filters_full, actions_full, counters_full}
use Rattle.filter_state.specs.Steps.{row_of, raised, with_row, with_actions, handle_for, pref_for, resolved_for, filter_added, add_resolved, add_at, filter_add}
use Rattle.filter_state.specs.Sound.{Sound, Each, GoTogether, places}
use Rattle.state_laws.proofs.Answers.{not_refused, not_not, neither, SoundAfter, unless_sound, then_sound}
use Rattle.filter_state.proofs.Pairs.{each_weaker, each_both}
use Rattle.filter_state.proofs.Times.{times, times_append, places_push}
use Rattle.state_laws.proofs.Held.{held_same}
use Rattle.state_laws.proofs.Fits.{TableFits, MaskFits, WithinTables, WithinMasks, table_fits, mask_fits}
use Rattle.state_laws.proofs.Rows.{IsPlain, rows_put}
use Rattle.state_laws.proofs.Ranges.{table_next, mask_next, raised_covers, pref_in_range, handle_in_range}
use Rattle.state_laws.proofs.Room.{room_for_table, room_for_mask}
use Rattle.state_laws.proofs.NewRow.{row_plain, line_resolves, OtherHandle, OtherMatch, other_handles, other_matches, row_goes}
use Rattle.state_laws.proofs.Whole.{rows_of, sound_from}

pub hooked_is : (s : State) → no_hook s ≡ None → s.hooked ≡ true
hooked_is s e = not_not s.hooked (not_refused (not s.hooked) refusals.NoHook e)

-- the places of a row more
pub more_places : (rows : List Row) (row : Row) (n : ℕ) → times n (places (rows ++ row ∷ [])) ≡ times n (places rows ++ row.actions)
more_places rows row n = places_push n rows row ∙ sym (times_append n (places rows) row.actions)

-- the serials of the table and the mask, and the handle
abbrev table_for : State → FilterLine → ℕ → ℕ
table_for s line pref = table_or_next (table_row line.hook line.chain pref s.rows) s.tables_made

abbrev mask_for : State → FilterLine → ℕ → ℕ
mask_for s line pref = mask_or_next (mask_row line.hook line.chain pref line.mask.words s.rows) s.masks_made

abbrev handle_in : State → FilterLine → ℕ → ℕ
handle_in s line pref = handle_for s line.hook line.chain pref line.handle

abbrev new_row : State → FilterLine → ℕ → List ℕ → Row
new_row s line pref serials = row_of line pref (table_for s line pref) (mask_for s line pref) (handle_in s line pref) serials

-- what isn't refused before the actions are resolved
record IsClear (s : State) (line : FilterLine) (pref : ℕ) : Type 0 where
  protocol : protocol_clash s line.hook line.chain pref line.protocol ≡ None
  handle : handle_taken s line.hook line.chain pref line.handle ≡ None
  differs : exists_but s line.hook line.chain pref None line.mask.words line.key.words ≡ None

-- and after
record HasPlace (s : State) (line : FilterLine) (pref : ℕ) (next : Made) : Type 0 where
  tables : tables_full s line.hook line.chain pref ≡ None
  masks : masks_full s line.hook line.chain pref line.mask.words ≡ None
  filters : filters_full s ≡ None
  actions : actions_full next ≡ None
  counters : counters_full next ≡ None

all_go : (s : State) (line : FilterLine) (pref : ℕ) (serials : List ℕ) → Sound s → IsClear s line pref → Each (λ x. GoTogether x (new_row s line pref serials)) s.rows
all_go s line pref serials sound clear =
    let rows = rows_of s sound in
    let low = each_weaker (IsPlain s.tables_made s.masks_made) (WithinTables s.tables_made) (λ x p. let t = p.table in t.1) s.rows rows.plain in
    let under = each_weaker (IsPlain s.tables_made s.masks_made) (WithinMasks s.masks_made) (λ x p. let m = p.mask in m.1) s.rows rows.plain in
    let T : Row → Type 0 = TableFits line.hook line.chain pref line.protocol (table_for s line pref) in
    let M : Row → Type 0 = MaskFits (table_for s line pref) line.mask.words (mask_for s line pref) in
    let H : Row → Type 0 = OtherHandle line.hook line.chain pref (handle_in s line pref) in
    let E : Row → Type 0 = OtherMatch line.hook line.chain pref None line.mask.words line.key.words in
    let t : Each T s.rows = table_fits line.hook line.chain pref line.protocol s.tables_made s.rows (table_row line.hook line.chain pref s.rows) refl clear.protocol low rows.together in
    let m : Each M s.rows = mask_fits line.hook line.chain pref line.protocol (table_for s line pref) line.mask.words s.masks_made s.rows (mask_row line.hook line.chain pref line.mask.words s.rows) refl t under rows.together in
    each_both (λ x. T x × M x) (λ x. H x × E x) (λ x. GoTogether x (new_row s line pref serials))
    (λ x fits others. row_goes line pref (table_for s line pref) (mask_for s line pref) (handle_in s line pref) serials x fits.0 fits.1 others.0 others.1) s.rows
    (each_both T M (λ x. T x × M x) (λ x a b. (a, b)) s.rows t m)
    (each_both H E (λ x. H x × E x) (λ x a b. (a, b)) s.rows (other_handles s line.hook line.chain pref line.handle clear.handle)
    (other_matches s line.hook line.chain pref None line.mask.words line.key.words clear.differs))

added_sound : (s : State) (line : FilterLine) (pref : ℕ) (r : Resolved) → Sound s → IsFilter line → s.hooked ≡ true → IsPref pref → IsClear s line pref → resolved_for s line.actions ≡ Ok r
    → HasPlace s line pref r.so_far → SoundAfter s (filter_added s line pref r)
added_sound s line pref r sound is hooked range clear e place =
    let row : Row = new_row s line pref r.serials in
    let rows = rows_of s sound in
    let resolved = line_resolves s line r sound is e in
    let table = table_next s.masks_made s.tables_made (in_table line.hook line.chain pref) s.rows (table_row line.hook line.chain pref s.rows) refl rows.plain in
    let mask = mask_next s.tables_made s.masks_made (λ row. in_table line.hook line.chain pref row && has_mask line.mask.words row) s.rows (mask_row line.hook line.chain pref line.mask.words s.rows) refl rows.plain in
    let tables = raised_covers s.tables_made row.table table.1 in
    let masks = raised_covers s.masks_made row.mask_serial mask.1 in
    sound_from (with_actions (with_row s row) r.so_far)
    (rows_put s.tables_made s.masks_made (raised s.tables_made row.table) (raised s.masks_made row.mask_serial) s.rows s.rows row rows rows (λ test some. some)
    (record {
      more_tables = tables.1;
      more_masks = masks.1;
      plain = row_plain (raised s.tables_made row.table) (raised s.masks_made row.mask_serial) line pref row.table row.mask_serial row.handle r.serials is range (table.0, tables.0) (mask.0, masks.0)
          (handle_in_range s line.hook line.chain pref line.handle is.handle sound.filters) resolved.1;
      goes = all_go s line pref r.serials sound clear;
      table_room = room_for_table s line.hook line.chain pref (table_row line.hook line.chain pref s.rows) refl place.tables;
      mask_room = room_for_mask s line.hook line.chain pref line.mask.words (mask_row line.hook line.chain pref line.mask.words s.rows) refl place.masks;
      filter_room = leb-false 4096 (length s.rows) (not_refused (nat_le 4096 (length s.rows)) refusals.FiltersFull place.filters);
    }))
    (held_same (places s.rows ++ r.serials) (places (s.rows ++ row ∷ [])) r.so_far.made r.so_far.actions (more_places s.rows row) resolved.0)
    (λ some. hooked)
    (ltb-false 1024 (length r.so_far.actions) (not_refused (nat_lt 1024 (length r.so_far.actions)) refusals.ActionsFull place.actions))
    (ltb-false 16384 r.so_far.made (not_refused (nat_lt 16384 r.so_far.made) refusals.CountersFull place.counters))

-- ---- the refusals, in order
resolved_sound : (s : State) (line : FilterLine) (pref : ℕ) (r : Resolved) → Sound s → IsFilter line → s.hooked ≡ true → IsPref pref → IsClear s line pref → resolved_for s line.actions ≡ Ok r
    → SoundAfter s (add_resolved s line pref r)
resolved_sound s line pref r sound is hooked range clear e =
    let t : Option Refusal = tables_full s line.hook line.chain pref in
    let m : Option Refusal = masks_full s line.hook line.chain pref line.mask.words in
    let f : Option Refusal = filters_full s in
    let a : Option Refusal = actions_full r.so_far in
    let c : Option Refusal = counters_full r.so_far in
    unless_sound s (or_else t (or_else m (or_else f (or_else a c)))) (filter_added s line pref r) sound
    (λ free.
    let one = neither t (or_else m (or_else f (or_else a c))) free in
    let two = neither m (or_else f (or_else a c)) one.1 in
    let three = neither f (or_else a c) two.1 in
    let four = neither a c three.1 in
    added_sound s line pref r sound is hooked range clear e (record { tables = one.0; masks = two.0; filters = three.0; actions = four.0; counters = four.1 }))

at_sound : (s : State) (line : FilterLine) (pref : ℕ) → Sound s → IsFilter line → s.hooked ≡ true → IsPref pref → SoundAfter s (add_at s line pref)
at_sound s line pref sound is hooked range =
    let p : Option Refusal = protocol_clash s line.hook line.chain pref line.protocol in
    let h : Option Refusal = handle_taken s line.hook line.chain pref line.handle in
    let x : Option Refusal = exists_but s line.hook line.chain pref None line.mask.words line.key.words in
    unless_sound s (or_else p (or_else h x)) (and_then (add_resolved s line pref) (resolved_for s line.actions)) sound
    (λ free.
    let one = neither p (or_else h x) free in
    let two = neither h x one.1 in
    then_sound s (add_resolved s line pref) (resolved_for s line.actions) sound
    (λ r e. resolved_sound s line pref r sound is hooked range (record { protocol = one.0; handle = two.0; differs = two.1 }) e))

pub filter_add_sound : (s : State) (line : FilterLine) → Sound s → IsFilter line → SoundAfter s (filter_add s line)
filter_add_sound s line sound is =
    let rows = rows_of s sound in
    unless_sound s (no_hook s) (and_then (add_at s line) (pref_for s line.hook line.chain line.pref)) sound
    (λ hook. then_sound s (add_at s line) (pref_for s line.hook line.chain line.pref) sound
    (λ pref e. at_sound s line pref sound is (hooked_is s hook)
    (pref_in_range s line.hook line.chain line.pref pref is.pref (each_weaker (IsPlain s.tables_made s.masks_made) (λ (r : Row). IsPref r.pref) (λ x p. p.pref) s.rows rows.plain) e)))
