-- One row taken out: what that changes of the tables, and of the words and filters of masks.
use Rattle.std.proofs.Common.{◌≡◌, ◌≢◌, ℕ, ◌==◌, Bool, true, false, not, List, [], ◌∷◌, refl, sym, ◌∙◌, ap, subst, eqb-true}
use Rattle.std.specs.Prelude.{filter}
use Rattle.std.specs.List.{list_any}
use Rattle.std.proofs.lemmas.Bool.{eqb-false, ne_eqb}
use Rattle.tc_base.specs.declared.hook.Hook.{Hook}
use Rattle.filter_state.specs.States.{Row}
use Rattle.filter_state.specs.Tables.{in_hook}
use Rattle.filter_state.specs.Order.{of_mask}
use Rattle.filter_state.specs.Sound.{Each}
use Rattle.filter_state.proofs.Pairs.{each_weaker, each_filter}
use Rattle.state_laws.proofs.Counts.{filter_any}
use Rattle.state_laws.proofs.Fits.{Akin}
use Rattle.walk_rules.proofs.Listed.{unkept}
use Rattle.edit_effects.proofs.OfEffects.Kept.{spared}
use Rattle.edit_effects.proofs.OfEffects.Sorted.{tables_of}
use Rattle.edit_effects.proofs.OfEffects.Heads.{tables_on, tables_taken, tables_like_another}
use Rattle.edit_effects.proofs.OfEffects.Alike.{HasWords, all_alike, all_words}
use Rattle.edit_effects.proofs.OfEffects.Masks.{words_at, words_same, words_are}
use Rattle.edit_effects.proofs.OfEffects.Pushed.{not_on}

module _ (gone : Row → Bool) (old : Row) (rows : List Row) (only : filter gone rows ≡ old ∷ []) where
  abbrev left : List Row
  left = filter (λ x. not (gone x)) rows

  pub the_gone : Each (λ x. gone x ≡ true → x ≡ old) rows
  the_gone = unkept (λ x. x ≡ old) gone rows (subst (Each (λ x. x ≡ old)) (sym only) (refl, tt))

  -- ---- masks and hooks that aren't the row's
  pub other_mask_taken : (mask : ℕ) → mask ≢ old.mask_serial → filter (of_mask mask) left ≡ filter (of_mask mask) rows
  other_mask_taken mask other =
      spared (of_mask mask) gone rows
      (each_weaker (λ x. gone x ≡ true → x ≡ old) (λ x. gone x ≡ true → of_mask mask x ≡ false)
      (λ x same is. ne_eqb x.mask_serial mask (λ e. other (sym e ∙ ap (λ (r : Row). r.mask_serial) (same is)))) rows the_gone)

  pub other_tables_taken : (hook : Hook) → hook ≢ old.hook → tables_on hook left ≡ tables_on hook rows
  other_tables_taken hook other =
      ap tables_of (spared (in_hook hook) gone rows
      (each_weaker (λ x. gone x ≡ true → x ≡ old) (λ x. gone x ≡ true → in_hook hook x ≡ false)
      (λ x same is. ap (in_hook hook) (same is) ∙ not_on hook old other) rows the_gone))

  -- ---- a mask that keeps another row
  module _ (akin : Each (Akin old) rows) (some : list_any (of_mask old.mask_serial) left ≡ true) where
    pub tables_keep : (hook : Hook) → tables_on hook left ≡ tables_on hook rows
    tables_keep hook =
        sym (tables_like_another hook old left (all_alike old left (each_filter (Akin old) (λ x. not (gone x)) rows akin)) some)
        ∙ sym (tables_taken hook gone old rows only (all_alike old rows akin))

    own_words_keep : words_at old.mask_serial left ≡ words_at old.mask_serial rows
    own_words_keep =
        let all = all_words old rows akin in
        let stay : Row → Bool = λ x. not (gone x) in
        words_are old.mask_serial old.mask left (each_filter (HasWords old.mask_serial old.mask) stay rows all) some
        ∙ sym (words_are old.mask_serial old.mask rows all (filter_any (of_mask old.mask_serial) stay rows some))

    words_case : (mask : ℕ) (b : Bool) → (mask == old.mask_serial) ≡ b → words_at mask left ≡ words_at mask rows
    words_case mask true is = subst (λ m. words_at m left ≡ words_at m rows) (sym (eqb-true mask old.mask_serial is)) own_words_keep
    words_case mask false is = words_same mask left rows (other_mask_taken mask (eqb-false mask old.mask_serial is))

    pub words_keep : (mask : ℕ) → words_at mask left ≡ words_at mask rows
    words_keep mask = words_case mask (mask == old.mask_serial) refl
