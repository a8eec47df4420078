-- A mask that a filter leaves for another mask keeps its words, where it keeps another filter.
use Rattle.std.proofs.Common.{◌≡◌, ◌≢◌, ℕ, ◌&&◌, false, not, if◌then◌else◌, List, [], ◌∷◌, ◌++◌, Some, Ok, sym, ◌∙◌, ap}
use Rattle.std.specs.List.{list_any}
use Rattle.std.specs.Str.{bytes_eq}
use Rattle.std.proofs.lemmas.Bool.{and_left, false_from_ne_true}
use Rattle.filter_state.specs.declared.edit.Edit.TheVariants as edits
use Rattle.filter_state.specs.declared.edit.FilterLine.{FilterLine}
use Rattle.filter_state.specs.declared.refusal.Done.{Done}
use Rattle.filter_state.specs.declared.refusal.Done.TheVariants as dones
use Rattle.filter_state.specs.States.{Row, State}
use Rattle.filter_state.specs.Order.{of_mask}
use Rattle.filter_state.specs.Steps.{with_new_actions, with_row, without_row, mask_serial_for, step}
use Rattle.filter_state.specs.Sound.{Sound}
use Rattle.filter_state.proofs.Pairs.{each_append, each_filter, found}
use Rattle.state_laws.proofs.Fits.{MaskFits}
use Rattle.state_laws.proofs.Old.{is_old}
use Rattle.state_laws.proofs.Tests.{bytes_eq_true}
use Rattle.edit_effects.specs.OfEffects.Parts.{Stands, words_of}
use Rattle.edit_effects.proofs.OfEffects.Alike.{HasWords, all_words}
use Rattle.edit_effects.proofs.OfEffects.Masks.{words_at, words_are}
use Rattle.edit_effects.proofs.OfEffects.Moving.{Known, known}
use Rattle.edit_effects.proofs.OfEffects.Replacing.{Replaces, replaces, moved_row}
use Rattle.hook_meaning.specs.OfEdits.Premises.{named_row}

other_words : (row : Row) (line : FilterLine) → row.mask ≢ line.mask.words → (bytes_eq row.mask line.mask.words && bytes_eq row.key line.key.words) ≡ false
other_words row line differs =
    and_left (bytes_eq row.mask line.mask.words) (bytes_eq row.key line.key.words)
    (false_from_ne_true (bytes_eq row.mask line.mask.words) (λ e. differs (bytes_eq_true row.mask line.mask.words e)))

-- the new row comes last, behind the others
rows_after : (s t : State) (line : FilterLine) (row : Row) (done : Done) (r : Replaces s line row t done) → row.mask ≢ line.mask.words
    → t.rows ≡ without_row row s.rows ++ moved_row s line row r.r.serials ∷ []
rows_after s t line row done r differs =
    let serials : List ℕ = r.r.serials in
    let stays : State = record s { rows = with_new_actions row serials s.rows } in
    let leaves : State = with_row (record s { rows = without_row row s.rows }) (moved_row s line row serials) in
    sym (ap (λ (u : State). u.rows) r.after) ∙ ap (λ b. (if b then stays else leaves).rows) (other_words row line differs)

apart : (s : State) (line : FilterLine) (row : Row) → Known s line row → row.mask ≢ line.mask.words → mask_serial_for s line row ≢ row.mask_serial
apart s line row k differs same =
    let is = k.is in
    let fits = (found (MaskFits row.table line.mask.words (mask_serial_for s line row)) (is_old row) s.rows row k.masks is.first).0 in
    differs (fits.same (sym same)).1

pub own_words : (s t : State) (line : FilterLine) (pref handle : ℕ) (serials : List ℕ) (row : Row) → Sound s → step s (edits.FilterReplace line) ≡ Ok (t, dones.Filter pref handle serials)
    → named_row s line ≡ Some row → row.mask ≢ line.mask.words → Stands t row.mask_serial → words_of t row.mask_serial ≡ row.mask
own_words s t line pref handle serials row sound e is differs stands =
    let r = replaces s t line row (dones.Filter pref handle serials) is e in
    let k = known s line row sound is r.agrees r.room in
    let old = k.is in
    let mask : ℕ = row.mask_serial in
    let rows = rows_after s t line row (dones.Filter pref handle serials) r differs in
    let left : List Row = without_row row s.rows in
    let new : Row = moved_row s line row r.r.serials in
    let worded = each_append (HasWords mask row.mask) left (new ∷ [])
    (each_filter (HasWords mask row.mask) (λ x. not (is_old row x)) s.rows (all_words row s.rows old.akin)) ((λ same. absurd (apart s line row k differs same)), tt) in
    ap (words_at mask) rows ∙ words_are mask row.mask (left ++ new ∷ []) worded (sym (ap (list_any (of_mask mask)) rows) ∙ stands)
