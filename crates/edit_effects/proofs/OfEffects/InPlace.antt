-- A filter is replaced by one with the same mask and key: it keeps its place.
use Rattle.std.proofs.Common.{◌≡◌, ℕ, true, false, if◌then◌else◌, List, Some, Ok, sym, ◌∙◌, ap, subst}
use Rattle.std.specs.Str.{bytes_eq}
use Rattle.std.proofs.lemmas.Bool.{false≢true, and_from, ne_eqb, false_from_ne_true}
use Rattle.filter_state.specs.declared.edit.FilterLine.{FilterLine}
use Rattle.filter_state.specs.declared.refusal.Done.TheVariants as dones
use Rattle.filter_state.specs.States.{State, Row}
use Rattle.filter_state.specs.Actions.{Resolved}
use Rattle.filter_state.specs.Order.{of_mask}
use Rattle.filter_state.specs.Steps.{with_new_actions, with_row, without_row, filter_replace}
use Rattle.filter_state.specs.Steps.{with_actions as with_made}
use Rattle.filter_state.specs.Sound.{Sound}
use Rattle.filter_state.proofs.Pairs.{each_weaker}
use Rattle.state_laws.proofs.Tests.{bytes_eq_from}
use Rattle.state_laws.proofs.Old.{is_old, IsOld, old_found}
use Rattle.edit_effects.specs.OfEffects.Parts.{filters_of}
use Rattle.edit_effects.specs.OfEffects.Effects.{ChangesMask, with_actions}
use Rattle.edit_effects.proofs.OfEffects.Accepted.{same_filter}
use Rattle.edit_effects.proofs.OfEffects.Heads.{tables_changed}
use Rattle.edit_effects.proofs.OfEffects.Masks.{filters_same, words_changed, others_changed, filters_changed}
use Rattle.edit_effects.proofs.OfEffects.Taken.{the_gone}
use Rattle.edit_effects.proofs.OfEffects.Replacing.{exchanged_actions, is_there, replaces, old_handles, moved_row}

abbrev stayed : State → Row → Resolved → State
stayed s old r = with_made (record s { rows = with_new_actions old r.serials s.rows }) (exchanged_actions old r)

changes_one : (s : State) (line : FilterLine) (old : Row) (r : Resolved) → IsOld s line old →
    ChangesMask old.mask_serial (with_actions old.handle r.serials (filters_of s old.mask_serial)) s (stayed s old r)
changes_one s line old r is =
    let after : List Row = with_new_actions old r.serials s.rows in record {
      tables = record { heads = λ hook. tables_changed hook (is_old old) r.serials s.rows; words = λ mask. words_changed mask (is_old old) r.serials s.rows };
      filters = filters_changed old.mask_serial (is_old old) r.serials old.handle s.rows (old_handles old s.rows is.akin);
      others = λ other differs. filters_same other after s.rows (others_changed other (is_old old) r.serials s.rows
          (each_weaker (λ x. is_old old x ≡ true → x ≡ old) (λ x. of_mask other x ≡ true → is_old old x ≡ false)
          (λ x same of. false_from_ne_true (is_old old x)
          (λ it. false≢true (sym (ne_eqb x.mask_serial other (λ e. differs (sym e ∙ ap (λ (row : Row). row.mask_serial) (same it)))) ∙ of))) s.rows
          (the_gone (is_old old) old s.rows is.only)));
    }

pub replaced_in_place : (s t : State) (line : FilterLine) (pref handle : ℕ) (serials : List ℕ) (old : Row) → Sound s → filter_replace s line ≡ Ok (t, dones.Filter pref handle serials) →
    is_there s line ≡ Some old → old.mask ≡ line.mask.words → old.key ≡ line.key.words →
    ChangesMask old.mask_serial (with_actions handle serials (filters_of s old.mask_serial)) s t
replaced_in_place s t line pref handle serials old sound e is mask key =
    let a = replaces s t line old (dones.Filter pref handle serials) is e in
    let same = same_filter old.pref pref old.handle handle a.r.serials serials a.answer in
    let left : State = with_row (record s { rows = without_row old s.rows }) (moved_row s line old a.r.serials) in
    let alike = and_from (bytes_eq old.mask line.mask.words) (bytes_eq old.key line.key.words) (bytes_eq_from old.mask line.mask.words mask) (bytes_eq_from old.key line.key.words key) in
    let after : stayed s old a.r ≡ t = sym (ap (λ b. with_made (if b then record s { rows = with_new_actions old a.r.serials s.rows } else left) (exchanged_actions old a.r)) alike) ∙ a.after in
    subst (λ u. ChangesMask old.mask_serial (with_actions handle serials (filters_of s old.mask_serial)) s u) after
    (subst (λ h. ChangesMask old.mask_serial (with_actions h serials (filters_of s old.mask_serial)) s (stayed s old a.r)) same.1
    (subst (λ ns. ChangesMask old.mask_serial (with_actions old.handle ns (filters_of s old.mask_serial)) s (stayed s old a.r)) same.2
    (changes_one s line old a.r (old_found s line old sound is))))
