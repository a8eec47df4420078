-- A filter is added: to a mask that stands, or with a new one.
use Rattle.std.proofs.Common.{◌≡◌, ℕ, ◌+◌, ◌&&◌, false, List, [], ◌∷◌, ◌++◌, Some, None, Ok, sym, ◌∙◌, ap, subst, arith, eq-eqb, true}
use Rattle.std.specs.List.{list_any}
use Rattle.std.proofs.lemmas.Bool.{false≢true, ne_eqb}
use Rattle.filter_state.specs.declared.edit.FilterLine.{FilterLine}
use Rattle.filter_state.specs.declared.refusal.Done.TheVariants as dones
use Rattle.filter_state.specs.States.{State, Row}
use Rattle.filter_state.specs.Actions.{Resolved}
use Rattle.filter_state.specs.Tables.{in_table, has_mask, mask_row, mask_or_next}
use Rattle.filter_state.specs.Order.{of_mask}
use Rattle.filter_state.specs.Refusals.{protocol_clash}
use Rattle.filter_state.specs.Steps.{filter_add}
use Rattle.filter_state.specs.Sound.{Sound, Each}
use Rattle.filter_state.proofs.Pairs.{each_weaker, any_none}
use Rattle.state_laws.proofs.Fits.{WithinMasks}
use Rattle.state_laws.proofs.Room.{found_any}
use Rattle.edit_effects.specs.OfEffects.Parts.{Stands, filter_of, filters_of}
use Rattle.edit_effects.specs.OfEffects.Effects.{ChangesMask, HasMask, ChangesHook}
use Rattle.edit_effects.proofs.OfEffects.Accepted.{same_filter}
use Rattle.edit_effects.proofs.OfEffects.Alike.{new_alike, new_words}
use Rattle.edit_effects.proofs.OfEffects.Masks.{filters_same, words_same, no_filters, other_last, filters_last}
use Rattle.edit_effects.proofs.OfEffects.Pushed.{other_tables_pushed, tables_pushed, own_words_pushed, words_pushed}
use Rattle.edit_effects.proofs.OfEffects.Adding.{mask_for, handle_in, table_for, new_row, added_state, line_filter, adds, fit}

-- ---- to a mask that stands
stands : (s : State) (line : FilterLine) (pref : ℕ) (row : Row) → mask_row line.hook line.chain pref line.mask.words s.rows ≡ Some row → list_any (of_mask (mask_for s line pref)) s.rows ≡ true
stands s line pref row is =
    let own : mask_for s line pref ≡ row.mask_serial = ap (λ o. mask_or_next o s.masks_made) is in
    found_any (λ x. in_table line.hook line.chain pref x && has_mask line.mask.words x) (of_mask (mask_for s line pref)) s.rows row is (eq-eqb row.mask_serial (mask_for s line pref) (sym own))

to_old_mask : (s : State) (line : FilterLine) (pref : ℕ) (r : Resolved) (row : Row) → Sound s → protocol_clash s line.hook line.chain pref line.protocol ≡ None →
    mask_row line.hook line.chain pref line.mask.words s.rows ≡ Some row →
    ChangesMask (mask_for s line pref) (filters_of s (mask_for s line pref) ++ filter_of (new_row s line pref r.serials) ∷ []) s (added_state s line pref r)
to_old_mask s line pref r row sound agrees is =
    let new : Row = new_row s line pref r.serials in
    let fit = fit s line pref sound agrees in
    let alike = new_alike new s.rows fit.tables fit.masks in
    let words = new_words (table_for s line pref) (mask_for s line pref) line.mask.words s.rows fit.masks in
    let some = stands s line pref row is in
    record {
      tables = record { heads = λ hook. tables_pushed new s.rows hook alike some; words = λ mask. words_pushed new s.rows mask words some };
      filters = filters_last s.rows new;
      others = λ other differs. filters_same other (s.rows ++ new ∷ []) s.rows (other_last other s.rows new differs);
    }

pub added_to_old : (s t : State) (line : FilterLine) (pref handle : ℕ) (serials : List ℕ) (row : Row) → Sound s → filter_add s line ≡ Ok (t, dones.Filter pref handle serials) →
    mask_row line.hook line.chain pref line.mask.words s.rows ≡ Some row → ChangesMask row.mask_serial (filters_of s row.mask_serial ++ line_filter line handle serials ∷ []) s t
added_to_old s t line pref handle serials row sound e is =
    let a = adds s t line (dones.Filter pref handle serials) e in
    let same = same_filter a.pref pref (handle_in s line a.pref) handle a.r.serials serials a.answer in
    let there = subst (λ p. mask_row line.hook line.chain p line.mask.words s.rows ≡ Some row) (sym same.0) is in
    let own : mask_for s line a.pref ≡ row.mask_serial = ap (λ o. mask_or_next o s.masks_made) there in
    subst (λ u. ChangesMask row.mask_serial (filters_of s row.mask_serial ++ line_filter line handle serials ∷ []) s u) a.after
    (subst (λ h. ChangesMask row.mask_serial (filters_of s row.mask_serial ++ line_filter line h serials ∷ []) s (added_state s line a.pref a.r)) same.1
    (subst (λ ns. ChangesMask row.mask_serial (filters_of s row.mask_serial ++ line_filter line (handle_in s line a.pref) ns ∷ []) s (added_state s line a.pref a.r)) same.2
    (subst (λ m. ChangesMask m (filters_of s m ++ line_filter line (handle_in s line a.pref) a.r.serials ∷ []) s (added_state s line a.pref a.r)) own
    (to_old_mask s line a.pref a.r row sound a.agrees there))))

-- ---- with a new mask
not_yet : (s : State) → Each (WithinMasks s.masks_made) s.rows → Each (λ x. of_mask (s.masks_made + 1) x ≡ false) s.rows
not_yet s low =
    each_weaker (WithinMasks s.masks_made) (λ x. of_mask (s.masks_made + 1) x ≡ false)
    (λ x below. ne_eqb x.mask_serial (s.masks_made + 1) (λ e. absurd (omega (arith, below, e)))) s.rows low

abbrev IsNewMask : State → FilterLine → ℕ → List ℕ → State → ℕ → Type 0
IsNewMask s line handle serials t mask =
    HasMask mask line.mask.words (line_filter line handle serials ∷ []) t × ChangesHook line.hook (λ m. m ≡ mask) s t × (Stands s mask → ⊥)

to_new_mask : (s : State) (line : FilterLine) (pref : ℕ) (r : Resolved) → Sound s → protocol_clash s line.hook line.chain pref line.protocol ≡ None →
    mask_row line.hook line.chain pref line.mask.words s.rows ≡ None → IsNewMask s line (handle_in s line pref) r.serials (added_state s line pref r) (mask_for s line pref)
to_new_mask s line pref r sound agrees is =
    let new : Row = new_row s line pref r.serials in
    let fit = fit s line pref sound agrees in
    let words = new_words (table_for s line pref) (mask_for s line pref) line.mask.words s.rows fit.masks in
    let own : mask_for s line pref ≡ s.masks_made + 1 = ap (λ o. mask_or_next o s.masks_made) is in
    let none = subst (λ m. Each (λ x. of_mask m x ≡ false) s.rows) (sym own) (not_yet s fit.low) in (
      record {
        words_are = own_words_pushed new s.rows words;
        filters_are = filters_last s.rows new ∙ ap (λ fs. fs ++ filter_of new ∷ []) (no_filters (mask_for s line pref) s.rows none);
      },
      record {
        heads = λ other differs. other_tables_pushed new s.rows other differs;
        others = λ mask differs. record {
          words = words_same mask (s.rows ++ new ∷ []) s.rows (other_last mask s.rows new differs);
          filters = filters_same mask (s.rows ++ new ∷ []) s.rows (other_last mask s.rows new differs);
        };
      },
      λ some. false≢true (sym (any_none (of_mask (mask_for s line pref)) s.rows none) ∙ some),
    )

pub added_to_new : (s t : State) (line : FilterLine) (pref handle : ℕ) (serials : List ℕ) → Sound s → filter_add s line ≡ Ok (t, dones.Filter pref handle serials) →
    mask_row line.hook line.chain pref line.mask.words s.rows ≡ None → IsNewMask s line handle serials t (s.masks_made + 1)
added_to_new s t line pref handle serials sound e is =
    let a = adds s t line (dones.Filter pref handle serials) e in
    let same = same_filter a.pref pref (handle_in s line a.pref) handle a.r.serials serials a.answer in
    let none = subst (λ p. mask_row line.hook line.chain p line.mask.words s.rows ≡ None) (sym same.0) is in
    let own : mask_for s line a.pref ≡ s.masks_made + 1 = ap (λ o. mask_or_next o s.masks_made) none in
    subst (λ u. IsNewMask s line handle serials u (s.masks_made + 1)) a.after
    (subst (λ h. IsNewMask s line h serials (added_state s line a.pref a.r) (s.masks_made + 1)) same.1
    (subst (λ ns. IsNewMask s line (handle_in s line a.pref) ns (added_state s line a.pref a.r) (s.masks_made + 1)) same.2
    (subst (λ m. IsNewMask s line (handle_in s line a.pref) a.r.serials (added_state s line a.pref a.r) m) own
    (to_new_mask s line a.pref a.r sound a.agrees none))))
