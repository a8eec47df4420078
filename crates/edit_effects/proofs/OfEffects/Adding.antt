-- A filter is added: the state behind that, and how the rows go with the new one.
use Rattle.std.proofs.Common.{◌≡◌, ℕ, List, Option, None, Ok, refl}
use Rattle.filter_state.specs.declared.edit.FilterLine.{FilterLine}
use Rattle.filter_state.specs.declared.refusal.Done.{Done}
use Rattle.filter_state.specs.declared.refusal.Done.TheVariants as dones
use Rattle.filter_state.specs.declared.refusal.Refusal.{Refusal}
use Rattle.filter_state.specs.States.{State, Row}
use Rattle.filter_state.specs.Actions.{Resolved, and_then}
use Rattle.filter_state.specs.Tables.{table_row, mask_row, table_or_next, mask_or_next}
use Rattle.filter_state.specs.Refusals.{or_else, no_hook, protocol_clash, handle_taken, exists_but, tables_full, masks_full, filters_full, actions_full, counters_full}
use Rattle.filter_state.specs.Steps.{row_of, handle_for, with_row, with_actions, pref_for, resolved_for, filter_added, add_resolved, add_at, filter_add}
use Rattle.filter_state.specs.Sound.{Sound, Each}
use Rattle.state_laws.proofs.Answers.{neither, and_then_ok}
use Rattle.filter_state.proofs.Pairs.{each_weaker}
use Rattle.state_laws.proofs.Fits.{TableFits, MaskFits, WithinTables, WithinMasks, table_fits, mask_fits}
use Rattle.state_laws.proofs.Rows.{IsPlain}
use Rattle.state_laws.proofs.Whole.{rows_of}
use Rattle.edit_effects.specs.OfEffects.Parts.{Filter}
use Rattle.edit_effects.proofs.OfEffects.Accepted.{not_unless, same_step}

-- ---- the new row
abbrev pub table_for : State → FilterLine → ℕ → ℕ
table_for s line pref = table_or_next (table_row line.hook line.chain pref s.rows) s.tables_made

abbrev pub mask_for : State → FilterLine → ℕ → ℕ
mask_for s line pref = mask_or_next (mask_row line.hook line.chain pref line.mask.words s.rows) s.masks_made

abbrev pub handle_in : State → FilterLine → ℕ → ℕ
handle_in s line pref = handle_for s line.hook line.chain pref line.handle

abbrev pub new_row : State → FilterLine → ℕ → List ℕ → Row
new_row s line pref serials = row_of line pref (table_for s line pref) (mask_for s line pref) (handle_in s line pref) serials

-- the new filter, apart from its table and mask
abbrev pub line_filter : FilterLine → ℕ → List ℕ → Filter
line_filter line handle serials = record { handle = handle; key = line.key.words; actions = serials }

-- ---- what is told by an add that is accepted
abbrev pub added_state : State → FilterLine → ℕ → Resolved → State
added_state s line pref r = with_actions (with_row s (new_row s line pref r.serials)) r.so_far

pub record Adds (s : State) (line : FilterLine) (t : State) (done : Done) : Type 0 where
  pub pref : ℕ
  pub r : Resolved
  pub resolves : resolved_for s line.actions ≡ Ok r
  pub agrees : protocol_clash s line.hook line.chain pref line.protocol ≡ None
  pub after : added_state s line pref r ≡ t
  pub answer : dones.Filter pref (handle_in s line pref) r.serials ≡ done

pub adds : (s t : State) (line : FilterLine) (done : Done) → filter_add s line ≡ Ok (t, done) → Adds s line t done
adds s t line done e =
    let hooked = not_unless (no_hook s) (and_then (add_at s line) (pref_for s line.hook line.chain line.pref)) (t, done) e in
    let first = and_then_ok (add_at s line) (pref_for s line.hook line.chain line.pref) (t, done) hooked.1 in
    let pref : ℕ = first.0 in
    let clash : Option Refusal = protocol_clash s line.hook line.chain pref line.protocol in
    let others : Option Refusal = or_else (handle_taken s line.hook line.chain pref line.handle) (exists_but s line.hook line.chain pref None line.mask.words line.key.words) in
    let clear = not_unless (or_else clash others) (and_then (add_resolved s line pref) (resolved_for s line.actions)) (t, done) first.2 in
    let next = and_then_ok (add_resolved s line pref) (resolved_for s line.actions) (t, done) clear.1 in
    let r : Resolved = next.0 in
    let room = not_unless (or_else (tables_full s line.hook line.chain pref)
    (or_else (masks_full s line.hook line.chain pref line.mask.words) (or_else (filters_full s) (or_else (actions_full r.so_far) (counters_full r.so_far)))))
    (filter_added s line pref r) (t, done) next.2 in
    let both = same_step (added_state s line pref r) t (dones.Filter pref (handle_in s line pref) r.serials) done room.1 in
    record { pref = pref; r = r; resolves = next.1; agrees = (neither clash others clear.0).0; after = both.0; answer = both.1 }

-- ---- how the rows go with the new one
pub record Fit (s : State) (line : FilterLine) (pref : ℕ) : Type 0 where
  pub tables : Each (TableFits line.hook line.chain pref line.protocol (table_for s line pref)) s.rows
  pub masks : Each (MaskFits (table_for s line pref) line.mask.words (mask_for s line pref)) s.rows
  pub low : Each (WithinMasks s.masks_made) s.rows

pub fit : (s : State) (line : FilterLine) (pref : ℕ) → Sound s → protocol_clash s line.hook line.chain pref line.protocol ≡ None → Fit s line pref
fit s line pref sound agrees =
    let rows = rows_of s sound in
    let low = each_weaker (IsPlain s.tables_made s.masks_made) (WithinTables s.tables_made) (λ x p. let t = p.table in t.1) s.rows rows.plain in
    let under = each_weaker (IsPlain s.tables_made s.masks_made) (WithinMasks s.masks_made) (λ x p. let m = p.mask in m.1) s.rows rows.plain in
    let tables = table_fits line.hook line.chain pref line.protocol s.tables_made s.rows (table_row line.hook line.chain pref s.rows) refl agrees low rows.together in
    let masks = mask_fits line.hook line.chain pref line.protocol (table_for s line pref) line.mask.words s.masks_made s.rows (mask_row line.hook line.chain pref line.mask.words s.rows) refl tables under rows.together in
    record { tables = tables; masks = masks; low = under }
