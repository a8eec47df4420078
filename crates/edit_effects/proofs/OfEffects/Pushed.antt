-- A row at the end: what it changes of the tables and of the words of masks.
use Rattle.std.proofs.Common.{◌≡◌, ◌≢◌, ℕ, ◌==◌, Bool, true, false, List, [], ◌∷◌, ◌++◌, refl, sym, ◌∙◌, ap, subst, eqb-true, eq-eqb}
use Rattle.std.specs.List.{list_any}
use Rattle.std.proofs.lemmas.Bool.{eqb-false, false_from_ne_true, or_left, or_right}
use Rattle.std.proofs.lemmas.List.Folds.{list_any-append}
use Rattle.tc_base.specs.declared.hook.Hook.{Hook}
use Rattle.filter_state.specs.States.{Row}
use Rattle.filter_state.specs.Tables.{in_hook}
use Rattle.filter_state.specs.Order.{of_mask}
use Rattle.filter_state.specs.Sound.{Each}
use Rattle.filter_state.proofs.Pairs.{each_append}
use Rattle.state_laws.proofs.Tests.{hook_eq_true}
use Rattle.edit_effects.proofs.OfEffects.Kept.{last_left}
use Rattle.edit_effects.proofs.OfEffects.Sorted.{tables_of}
use Rattle.edit_effects.proofs.OfEffects.Heads.{LookAlike, tables_on, tables_last, tables_like_another}
use Rattle.edit_effects.proofs.OfEffects.Alike.{HasWords}
use Rattle.edit_effects.proofs.OfEffects.Masks.{words_at, words_same, words_are, other_last}

-- a row of one hook isn't on the other
pub not_on : (hook : Hook) (row : Row) → hook ≢ row.hook → in_hook hook row ≡ false
not_on hook row other = false_from_ne_true (in_hook hook row) (λ is. other (sym (hook_eq_true row.hook hook is)))

module _ (row : Row) (rows : List Row) where
  pub other_tables_pushed : (hook : Hook) → hook ≢ row.hook → tables_on hook (rows ++ row ∷ []) ≡ tables_on hook rows
  other_tables_pushed hook other = ap tables_of (last_left (in_hook hook) rows row (not_on hook row other))

  pub tables_pushed : (hook : Hook) → Each (LookAlike row) rows → list_any (of_mask row.mask_serial) rows ≡ true → tables_on hook (rows ++ row ∷ []) ≡ tables_on hook rows
  tables_pushed hook alike some = tables_last hook row rows alike ∙ tables_like_another hook row rows alike some

  own_words : Each (HasWords row.mask_serial row.mask) rows → Each (HasWords row.mask_serial row.mask) (rows ++ row ∷ [])
  own_words all = each_append (HasWords row.mask_serial row.mask) rows (row ∷ []) all (λ same. refl, tt)

  pub stands_pushed : list_any (of_mask row.mask_serial) (rows ++ row ∷ []) ≡ true
  stands_pushed =
      list_any-append (of_mask row.mask_serial) rows (row ∷ [])
      ∙ or_right (list_any (of_mask row.mask_serial) rows) (list_any (of_mask row.mask_serial) (row ∷ []))
      (or_left (row.mask_serial == row.mask_serial) false (eq-eqb row.mask_serial row.mask_serial refl))

  -- its mask has its words
  pub own_words_pushed : Each (HasWords row.mask_serial row.mask) rows → words_at row.mask_serial (rows ++ row ∷ []) ≡ row.mask
  own_words_pushed all = words_are row.mask_serial row.mask (rows ++ row ∷ []) (own_words all) stands_pushed

  words_case : (mask : ℕ) (b : Bool) → (mask == row.mask_serial) ≡ b → Each (HasWords row.mask_serial row.mask) rows → list_any (of_mask row.mask_serial) rows ≡ true →
      words_at mask (rows ++ row ∷ []) ≡ words_at mask rows
  words_case mask true is all some =
      subst (λ m. words_at m (rows ++ row ∷ []) ≡ words_at m rows) (sym (eqb-true mask row.mask_serial is))
      (own_words_pushed all ∙ sym (words_are row.mask_serial row.mask rows all some))
  words_case mask false is all some = words_same mask (rows ++ row ∷ []) rows (other_last mask rows row (eqb-false mask row.mask_serial is))

  -- where its mask was there, no words change
  pub words_pushed : (mask : ℕ) → Each (HasWords row.mask_serial row.mask) rows → list_any (of_mask row.mask_serial) rows ≡ true → words_at mask (rows ++ row ∷ []) ≡ words_at mask rows
  words_pushed mask = words_case mask (mask == row.mask_serial) refl
