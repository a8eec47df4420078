-- A filter is replaced: in its place, or at the end.
use Rattle.std.proofs.Common.{◌≡◌, ℕ, ◌+◌, ◌≤◌, ◌==◌, Bool, true, false, not, cond, ◌&&◌, List, [], ◌∷◌, ◌++◌, length, Option, Some, None, Ok, refl, arith, eq-eqb, ltb-false}
use Rattle.std.specs.Prelude.{filter, nat_lt}
use Rattle.std.specs.Str.{bytes_eq}
use Rattle.std.specs.Option.{unwrap_or}
use Rattle.std.proofs.lemmas.Bool.{and_from}
use Rattle.filter_state.specs.declared.edit.FilterLine.{FilterLine}
use Rattle.filter_state.specs.declared.refusal.Refusal.{Refusal}
use Rattle.filter_state.specs.declared.refusal.Refusal.TheVariants as refusals
use Rattle.filter_state.specs.States.{State, Row}
use Rattle.filter_state.specs.Lines.{IsFilter}
use Rattle.filter_state.specs.Actions.{Resolved, and_then, all_unbound}
use Rattle.filter_state.specs.Tables.{filter_row}
use Rattle.filter_state.specs.Refusals.{or_else, no_hook, protocol_clash, exists_but, masks_full, actions_full, counters_full}
use Rattle.filter_state.specs.Steps.{row_of, raised, with_row, with_actions, with_new_actions, without_row, mask_serial_for, resolved_for, filter_replaced, replace_resolved, replace_at, replace_or_add, filter_replace}
use Rattle.filter_state.specs.Sound.{Sound, Each, GoTogether, places}
use Rattle.state_laws.proofs.Answers.{not_refused, neither, SoundAfter, unless_sound, then_sound}
use Rattle.filter_state.proofs.Pairs.{each_both, each_filter, each_passing}
use Rattle.state_laws.proofs.Tests.{row_in_table_from}
use Rattle.filter_state.proofs.Free.{shorter}
use Rattle.filter_state.proofs.Times.{times, times_append, places_push}
use Rattle.state_laws.proofs.Held.{AreHeld, held_same}
use Rattle.state_laws.proofs.Unbinding.{held_all_unbound, length_all_unbound}
use Rattle.state_laws.proofs.Counts.{filter_any}
use Rattle.state_laws.proofs.Fits.{TableFits, MaskFits}
use Rattle.state_laws.proofs.Rows.{AreRows, rows_put, rows_filter, rows_changed}
use Rattle.state_laws.proofs.Places.{places_without, places_changed}
use Rattle.state_laws.proofs.Ranges.{raised_covers}
use Rattle.state_laws.proofs.Room.{found_any, table_there}
use Rattle.state_laws.proofs.NewRow.{row_plain, line_resolves, OtherMatch, other_matches}
use Rattle.state_laws.proofs.Old.{is_old, IsOld, old_found, old_table, HasMask, old_mask, kept_goes}
use Rattle.state_laws.proofs.Whole.{rows_of, sound_from}
use Rattle.state_laws.proofs.Adding.{hooked_is, filter_add_sound}

-- ---- the actions of the new list are bound before those of the old one are unbound
abbrev Exchanges : List Row → List Row → List ℕ → List ℕ → Type 0
Exchanges rows next old serials = (n : ℕ) → times n (places next) + times n old ≡ times n (places rows) + times n serials

exchanged : (rows next : List Row) (old serials : List ℕ) → Exchanges rows next old serials → (n : ℕ) → times n (old ++ places next) ≡ times n (places rows ++ serials)
exchanged rows next old serials same n =
    let a = times_append n old (places next) in
    let b = times_append n (places rows) serials in
    let e = same n in
    omega arith

-- a state whose rows, tables and masks are sound, and whose places are these
pub record IsNextState (s : State) (old : Row) (serials : List ℕ) (next : State) : Type 0 where
  pub rows : AreRows next.tables_made next.masks_made next.rows
  pub places : Exchanges s.rows next.rows old.actions serials
  pub hooked : next.hooked ≡ true

next_sound : (s : State) (old : Row) (r : Resolved) (next : State) → AreHeld (places s.rows ++ r.serials) r.so_far.made r.so_far.actions → length r.so_far.actions ≤ 1024 → r.so_far.made ≤ 16384
    → IsNextState s old r.serials next → Sound (with_actions next (record r.so_far { actions = all_unbound old.actions r.so_far.actions }))
next_sound s old r next held live made is =
    let less = length_all_unbound old.actions r.so_far.actions in
    sound_from (with_actions next (record r.so_far { actions = all_unbound old.actions r.so_far.actions })) is.rows
    (held_all_unbound old.actions (places next.rows) r.so_far.made r.so_far.actions
    (held_same (places s.rows ++ r.serials) (old.actions ++ places next.rows) r.so_far.made r.so_far.actions (exchanged s.rows next.rows old.actions r.serials is.places) held))
    (λ some. is.hooked) (omega arith) made

-- ---- in its place
stays : (s : State) (line : FilterLine) (old : Row) (serials : List ℕ) → Sound s → IsOld s line old → s.hooked ≡ true → length serials ≤ 16
    → IsNextState s old serials (record s { rows = with_new_actions old serials s.rows })
stays s line old serials sound is hooked few = record {
  rows = rows_changed s.tables_made s.masks_made (is_old old) serials s.rows few (rows_of s sound);
  places = λ n. places_changed n serials (is_old old) s.rows old is.only;
  hooked = hooked;
}

-- ---- at the end
all_go : (s : State) (line : FilterLine) (old : Row) (mask : ℕ) (serials : List ℕ) → Each (TableFits line.hook line.chain old.pref line.protocol old.table) s.rows
    → Each (MaskFits old.table line.mask.words mask) s.rows → exists_but s line.hook line.chain old.pref (Some old.handle) line.mask.words line.key.words ≡ None
    → Each (λ x. GoTogether x (row_of line old.pref old.table mask old.handle serials)) (without_row old s.rows)
all_go s line old mask serials t m differs =
    let keep : Row → Bool = λ row. not (is_old old row) in
    let T : Row → Type 0 = TableFits line.hook line.chain old.pref line.protocol old.table in
    let M : Row → Type 0 = MaskFits old.table line.mask.words mask in
    let E : Row → Type 0 = OtherMatch line.hook line.chain old.pref (Some old.handle) line.mask.words line.key.words in
    let K : Row → Type 0 = λ x. keep x ≡ true in
    each_both (λ x. T x × M x) (λ x. K x × E x) (λ x. GoTogether x (row_of line old.pref old.table mask old.handle serials))
    (λ x fits others. kept_goes line old mask serials x fits.0 fits.1 others.0 others.1) (filter keep s.rows)
    (each_both T M (λ x. T x × M x) (λ x a b. (a, b)) (filter keep s.rows) (each_filter T keep s.rows t) (each_filter M keep s.rows m))
    (each_both K E (λ x. K x × E x) (λ x a b. (a, b)) (filter keep s.rows) (each_passing keep s.rows)
    (each_filter E keep s.rows (other_matches s line.hook line.chain old.pref (Some old.handle) line.mask.words line.key.words differs)))

left_places : (rows : List Row) (old row : Row) → filter (is_old old) rows ≡ old ∷ [] → Exchanges rows (without_row old rows ++ row ∷ []) old.actions row.actions
left_places rows old row only n =
    let push = places_push n (without_row old rows) row in
    let without = places_without n (is_old old) rows old only in
    omega arith

leaves : (s : State) (line : FilterLine) (old : Row) (serials : List ℕ) → Sound s → IsFilter line → IsOld s line old → s.hooked ≡ true → length serials ≤ 16
    → Each (TableFits line.hook line.chain old.pref line.protocol old.table) s.rows → HasMask s line old (mask_serial_for s line old)
    → exists_but s line.hook line.chain old.pref (Some old.handle) line.mask.words line.key.words ≡ None
    → IsNextState s old serials (with_row (record s { rows = without_row old s.rows }) (row_of line old.pref old.table (mask_serial_for s line old) old.handle serials))
leaves s line old serials sound is_filter is hooked few fits mask differs =
    let serial : ℕ = mask_serial_for s line old in
    let row : Row = row_of line old.pref old.table serial old.handle serials in
    let keep : Row → Bool = λ row. not (is_old old row) in
    let rows = rows_of s sound in
    let plain = is.plain in
    let table = plain.table in
    let next = mask.next in
    let tables = raised_covers s.tables_made old.table (omega arith) in
    let masks = raised_covers s.masks_made serial next.1 in
    let old_there = found_any (is_old old) (is_old old) s.rows old is.first
    (and_from (old.table == old.table) (old.handle == old.handle) (eq-eqb old.table old.table refl) (eq-eqb old.handle old.handle refl)) in
    let fewer = shorter (is_old old) s.rows old_there in
    let filters = sound.filters in record {
      rows = rows_put s.tables_made s.masks_made (raised s.tables_made old.table) (raised s.masks_made serial) s.rows (without_row old s.rows) row rows
          (rows_filter s.tables_made s.masks_made keep s.rows rows) (λ test some. filter_any test keep s.rows some) (record {
            more_tables = tables.1;
            more_masks = masks.1;
            plain = row_plain (raised s.tables_made old.table) (raised s.masks_made serial) line old.pref old.table serial old.handle serials is_filter plain.pref (table.0, tables.0) (next.0, masks.0) plain.handle few;
            goes = all_go s line old serial serials fits mask.fits differs;
            table_room = table_there line.hook line.chain old.pref (is_old old) s.rows old is.first (row_in_table_from line.hook line.chain old.pref old is.hook is.chain refl);
            mask_room = mask.room;
            filter_room = omega arith;
          });
      places = left_places s.rows old row is.only;
      hooked = hooked;
    }

-- ---- either
record IsClear (s : State) (line : FilterLine) (old : Row) : Type 0 where
  hook : no_hook s ≡ None
  protocol : protocol_clash s line.hook line.chain old.pref line.protocol ≡ None
  differs : exists_but s line.hook line.chain old.pref (Some old.handle) line.mask.words line.key.words ≡ None

either_next : (s : State) (old : Row) (serials : List ℕ) (b : Bool) (stayed left : State) → IsNextState s old serials stayed → IsNextState s old serials left → IsNextState s old serials (cond b stayed left)
either_next s old serials true stayed left one other = one
either_next s old serials false stayed left one other = other

replaced_sound : (s : State) (line : FilterLine) (old : Row) (r : Resolved) → Sound s → IsFilter line → IsOld s line old → IsClear s line old → resolved_for s line.actions ≡ Ok r
    → masks_full s line.hook line.chain old.pref line.mask.words ≡ None → actions_full r.so_far ≡ None → counters_full r.so_far ≡ None → SoundAfter s (filter_replaced s line old r)
replaced_sound s line old r sound is_filter is clear e masks actions counters =
    let hooked = hooked_is s clear.hook in
    let resolved = line_resolves s line r sound is_filter e in
    let fits = old_table s line old sound is clear.protocol in
    let stayed : State = record s { rows = with_new_actions old r.serials s.rows } in
    let left : State = with_row (record s { rows = without_row old s.rows }) (row_of line old.pref old.table (mask_serial_for s line old) old.handle r.serials) in
    let same : Bool = bytes_eq old.mask line.mask.words && bytes_eq old.key line.key.words in
    next_sound s old r (cond same stayed left) resolved.0
    (ltb-false 1024 (length r.so_far.actions) (not_refused (nat_lt 1024 (length r.so_far.actions)) refusals.ActionsFull actions))
    (ltb-false 16384 r.so_far.made (not_refused (nat_lt 16384 r.so_far.made) refusals.CountersFull counters))
    (either_next s old r.serials same stayed left (stays s line old r.serials sound is hooked resolved.1)
    (leaves s line old r.serials sound is_filter is hooked resolved.1 fits (old_mask s line old sound is fits masks) clear.differs))

resolved_sound : (s : State) (line : FilterLine) (old : Row) (r : Resolved) → Sound s → IsFilter line → IsOld s line old → IsClear s line old → resolved_for s line.actions ≡ Ok r
    → SoundAfter s (replace_resolved s line old r)
resolved_sound s line old r sound is_filter is clear e =
    let m : Option Refusal = masks_full s line.hook line.chain old.pref line.mask.words in
    let a : Option Refusal = actions_full r.so_far in
    let c : Option Refusal = counters_full r.so_far in
    unless_sound s (or_else m (or_else a c)) (filter_replaced s line old r) sound
    (λ free.
    let one = neither m (or_else a c) free in
    let two = neither a c one.1 in
    replaced_sound s line old r sound is_filter is clear e one.0 two.0 two.1)

at_sound : (s : State) (line : FilterLine) (old : Row) → Sound s → IsFilter line → IsOld s line old → SoundAfter s (replace_at s line old)
at_sound s line old sound is_filter is =
    let h : Option Refusal = no_hook s in
    let p : Option Refusal = protocol_clash s line.hook line.chain old.pref line.protocol in
    let x : Option Refusal = exists_but s line.hook line.chain old.pref (Some old.handle) line.mask.words line.key.words in
    unless_sound s (or_else h (or_else p x)) (and_then (replace_resolved s line old) (resolved_for s line.actions)) sound
    (λ free.
    let one = neither h (or_else p x) free in
    let two = neither p x one.1 in
    then_sound s (replace_resolved s line old) (resolved_for s line.actions) sound
    (λ r e. resolved_sound s line old r sound is_filter is (record { hook = one.0; protocol = two.0; differs = two.1 }) e))

either_sound : (s : State) (line : FilterLine) (o : Option Row) → filter_row line.hook line.chain (unwrap_or line.pref 0) (unwrap_or line.handle 0) s.rows ≡ o → Sound s → IsFilter line
    → SoundAfter s (replace_or_add s line o)
either_sound s line (Some old) e sound is_filter = at_sound s line old sound is_filter (old_found s line old sound e)
either_sound s line None e sound is_filter = filter_add_sound s line sound is_filter

pub filter_replace_sound : (s : State) (line : FilterLine) → Sound s → IsFilter line → SoundAfter s (filter_replace s line)
filter_replace_sound s line sound is_filter =
    either_sound s line (filter_row line.hook line.chain (unwrap_or line.pref 0) (unwrap_or line.handle 0) s.rows) refl sound is_filter
