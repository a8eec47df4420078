-- A filter is replaced: the state behind that, and how the rows go with it.
use Rattle.std.proofs.Common.{◌≡◌, ℕ, ◌&&◌, List, Option, Some, None, Ok, sym, ◌∙◌, ap, eqb-true, eq-eqb}
use Rattle.std.specs.Option.{unwrap_or}
use Rattle.filter_state.specs.declared.edit.FilterLine.{FilterLine}
use Rattle.filter_state.specs.declared.refusal.Done.{Done}
use Rattle.filter_state.specs.declared.refusal.Done.TheVariants as dones
use Rattle.filter_state.specs.declared.refusal.Refusal.{Refusal}
use Rattle.filter_state.specs.States.{State, Row}
use Rattle.filter_state.specs.Actions.{Resolved, Made, and_then, all_unbound}
use Rattle.filter_state.specs.Tables.{has_handle, filter_row}
use Rattle.filter_state.specs.Refusals.{or_else, no_hook, protocol_clash, exists_but, masks_full, actions_full, counters_full}
use Rattle.filter_state.specs.Steps.{row_of, with_actions, mask_serial_for, with_replaced, resolved_for, filter_replaced, replace_resolved, replace_at, replace_or_add, filter_replace}
use Rattle.filter_state.specs.Sound.{Sound, Each}
use Rattle.state_laws.proofs.Answers.{neither, and_then_ok}
use Rattle.filter_state.proofs.Pairs.{each_weaker}
use Rattle.state_laws.proofs.Fits.{Akin, TableFits, MaskFits}
use Rattle.state_laws.proofs.Old.{is_old, IsOld, old_table, old_mask}
use Rattle.edit_effects.proofs.OfEffects.Accepted.{not_unless, same_step}
use Rattle.edit_effects.proofs.OfEffects.Masks.{IsHandleIn}

-- the actions behind it: those of the line are bound before those of the old list are unbound
abbrev pub exchanged_actions : Row → Resolved → Made
exchanged_actions old r = record r.so_far { actions = all_unbound old.actions r.so_far.actions }

-- what is told by a replace that is accepted, where the filter is there
pub record Replaces (s : State) (line : FilterLine) (old : Row) (t : State) (done : Done) : Type 0 where
  pub r : Resolved
  pub resolves : resolved_for s line.actions ≡ Ok r
  pub agrees : protocol_clash s line.hook line.chain old.pref line.protocol ≡ None
  pub room : masks_full s line.hook line.chain old.pref line.mask.words ≡ None
  pub after : with_actions (with_replaced s line old r.serials) (exchanged_actions old r) ≡ t
  pub answer : dones.Filter old.pref old.handle r.serials ≡ done

replaces_at : (s t : State) (line : FilterLine) (old : Row) (done : Done) → replace_at s line old ≡ Ok (t, done) → Replaces s line old t done
replaces_at s t line old done e =
    let clash : Option Refusal = protocol_clash s line.hook line.chain old.pref line.protocol in
    let exists : Option Refusal = exists_but s line.hook line.chain old.pref (Some old.handle) line.mask.words line.key.words in
    let clear = not_unless (or_else (no_hook s) (or_else clash exists)) (and_then (replace_resolved s line old) (resolved_for s line.actions)) (t, done) e in
    let next = and_then_ok (replace_resolved s line old) (resolved_for s line.actions) (t, done) clear.1 in
    let r : Resolved = next.0 in
    let masks : Option Refusal = masks_full s line.hook line.chain old.pref line.mask.words in
    let counts : Option Refusal = or_else (actions_full r.so_far) (counters_full r.so_far) in
    let room = not_unless (or_else masks counts) (filter_replaced s line old r) (t, done) next.2 in
    let both = same_step (with_actions (with_replaced s line old r.serials) (exchanged_actions old r)) t (dones.Filter old.pref old.handle r.serials) done room.1 in
    record {
      r = r;
      resolves = next.1;
      agrees = (neither clash exists (neither (no_hook s) (or_else clash exists) clear.0).1).0;
      room = (neither masks counts room.0).0;
      after = both.0;
      answer = both.1;
    }

abbrev pub is_there : State → FilterLine → Option Row
is_there s line = filter_row line.hook line.chain (unwrap_or line.pref 0) (unwrap_or line.handle 0) s.rows

pub replaces : (s t : State) (line : FilterLine) (old : Row) (done : Done) → is_there s line ≡ Some old → filter_replace s line ≡ Ok (t, done) → Replaces s line old t done
replaces s t line old done is e = replaces_at s t line old done (sym (ap (replace_or_add s line) is) ∙ e)

-- ---- the filter that is replaced is the one of its mask with its handle
handles_of : (old x : Row) → Akin old x → IsHandleIn old.mask_serial (is_old old) old.handle x
handles_of old x akin of =
    let table = (akin.same_mask (sym (eqb-true x.mask_serial old.mask_serial of))).0 in
    ap (λ b. b && has_handle old.handle x) (eq-eqb x.table old.table (sym table))

pub old_handles : (old : Row) (rows : List Row) → Each (Akin old) rows → Each (IsHandleIn old.mask_serial (is_old old) old.handle) rows
old_handles old = each_weaker (Akin old) (IsHandleIn old.mask_serial (is_old old) old.handle) (handles_of old)

-- ---- how the rows go with the new one
abbrev pub moved_row : State → FilterLine → Row → List ℕ → Row
moved_row s line old serials = row_of line old.pref old.table (mask_serial_for s line old) old.handle serials

pub record Fit (s : State) (line : FilterLine) (old : Row) : Type 0 where
  pub tables : Each (TableFits line.hook line.chain old.pref line.protocol old.table) s.rows
  pub masks : Each (MaskFits old.table line.mask.words (mask_serial_for s line old)) s.rows

pub fit : (s : State) (line : FilterLine) (old : Row) → Sound s → IsOld s line old → protocol_clash s line.hook line.chain old.pref line.protocol ≡ None →
    masks_full s line.hook line.chain old.pref line.mask.words ≡ None → Fit s line old
fit s line old sound is agrees room =
    let tables = old_table s line old sound is agrees in
    let mask = old_mask s line old sound is tables room in
    record { tables = tables; masks = mask.fits }
