-- The words and the filters of a mask, where a row comes, goes or gets other actions.
use Rattle.std.proofs.Common.{◌≡◌, ◌≢◌, ℕ, Bool, true, false, not, cond, List, [], ◌∷◌, ◌++◌, map, Option, Some, refl, sym, ◌∙◌, ap, eqb-true, eq-eqb}
use Rattle.std.specs.Prelude.{filter}
use Rattle.std.specs.List.{list_any}
use Rattle.std.proofs.lemmas.Bool.{ne_eqb}
use Rattle.std.proofs.lemmas.List.{map-append}
use Rattle.filter_state.specs.States.{Row}
use Rattle.filter_state.specs.Actions.{change_where}
use Rattle.filter_state.specs.Tables.{first_where, has_handle}
use Rattle.filter_state.specs.Order.{of_mask}
use Rattle.filter_state.specs.Sound.{Each}
use Rattle.filter_state.proofs.Pairs.{any_first, found}
use Rattle.state_laws.proofs.Rows.{put_actions}
use Rattle.row_laws.proofs.OfLookups.Heads.{head_of, first_head, filter_none}
use Rattle.walk_rules.proofs.Listed.{kept_have, kept_alike}
use Rattle.edit_effects.specs.OfEffects.Parts.{Filter, filter_of, words_in, is_handle, without}
use Rattle.edit_effects.specs.OfEffects.Effects.{with_actions}
use Rattle.edit_effects.proofs.OfEffects.Kept.{last_left, last_kept, either_order, kept_of_mapped}
use Rattle.edit_effects.proofs.OfEffects.Alike.{HasWords}

-- of some rows
abbrev pub filters_at : ℕ → List Row → List Filter
filters_at mask rows = map filter_of (filter (of_mask mask) rows)

abbrev pub words_at : ℕ → List Row → List ℕ
words_at mask rows = words_in (first_where (of_mask mask) rows)

-- ---- rows of which those of the mask are the same
pub filters_same : (mask : ℕ) (xs ys : List Row) → filter (of_mask mask) xs ≡ filter (of_mask mask) ys → filters_at mask xs ≡ filters_at mask ys
filters_same mask xs ys same = ap (map filter_of) same

pub words_same : (mask : ℕ) (xs ys : List Row) → filter (of_mask mask) xs ≡ filter (of_mask mask) ys → words_at mask xs ≡ words_at mask ys
words_same mask xs ys same = ap words_in (first_head (of_mask mask) xs ∙ ap head_of same ∙ sym (first_head (of_mask mask) ys))

-- ---- a mask that stands has the words of each of its rows
pub words_are : (mask : ℕ) (words : List ℕ) (rows : List Row) → Each (HasWords mask words) rows → list_any (of_mask mask) rows ≡ true → words_at mask rows ≡ words
words_are mask words rows all some =
    let first = any_first (of_mask mask) rows some in
    let has = found (HasWords mask words) (of_mask mask) rows first.0 all first.1 in
    ap words_in first.1 ∙ has.0 (eqb-true first.0.mask_serial mask has.1)

-- and no filters where it doesn't stand
pub no_filters : (mask : ℕ) (rows : List Row) → Each (λ x. of_mask mask x ≡ false) rows → filters_at mask rows ≡ []
no_filters mask rows none = ap (map filter_of) (filter_none (of_mask mask) rows none)

-- ---- a row at the end
pub other_last : (mask : ℕ) (rows : List Row) (row : Row) → mask ≢ row.mask_serial → filter (of_mask mask) (rows ++ row ∷ []) ≡ filter (of_mask mask) rows
other_last mask rows row other = last_left (of_mask mask) rows row (ne_eqb row.mask_serial mask (λ e. other (sym e)))

pub filters_last : (rows : List Row) (row : Row) → filters_at row.mask_serial (rows ++ row ∷ []) ≡ filters_at row.mask_serial rows ++ filter_of row ∷ []
filters_last rows row =
    ap (map filter_of) (last_kept (of_mask row.mask_serial) rows row (eq-eqb row.mask_serial row.mask_serial refl))
    ∙ map-append filter_of (filter (of_mask row.mask_serial) rows) (row ∷ [])

-- ---- a row taken out, which is the one with that handle
abbrev pub IsHandleIn : ℕ → (Row → Bool) → ℕ → Row → Type 0
IsHandleIn mask test handle x = of_mask mask x ≡ true → test x ≡ has_handle handle x

pub filters_without : (mask : ℕ) (gone : Row → Bool) (handle : ℕ) (rows : List Row) → Each (IsHandleIn mask gone handle) rows →
    filters_at mask (filter (λ x. not (gone x)) rows) ≡ without handle (filters_at mask rows)
filters_without mask gone handle rows all =
    let stay : Row → Bool = λ x. not (gone x) in
    let other : Row → Bool = λ x. not (has_handle handle x) in
    let alike = kept_have (IsHandleIn mask gone handle) (λ x. stay x ≡ other x) (of_mask mask) (λ x at same. ap not (same at)) rows all in
    ap (map filter_of) (either_order (of_mask mask) stay rows ∙ kept_alike stay other (filter (of_mask mask) rows) alike)
    ∙ sym (kept_of_mapped (λ f. not (is_handle handle f)) filter_of (filter (of_mask mask) rows))

-- ---- rows with other actions
module _ (mask : ℕ) (test : Row → Bool) (serials : List ℕ) where
  abbrev changed : Row → Row
  changed x = cond (test x) (put_actions serials x) x

  still : (b : Bool) (x : Row) → of_mask mask (cond b (put_actions serials x) x) ≡ of_mask mask x
  still true x = refl
  still false x = refl

  pub others_changed : (rows : List Row) → Each (λ x. of_mask mask x ≡ true → test x ≡ false) rows → filter (of_mask mask) (change_where test (put_actions serials) rows) ≡ filter (of_mask mask) rows
  others_changed [] all = refl
  others_changed (x ∷ rows) all = ap (λ b. cond b (changed x ∷ after) after) (still (test x) x) ∙ step (of_mask mask x) refl (others_changed rows all.1)
    where
      after : List Row
      after = filter (of_mask mask) (change_where test (put_actions serials) rows)

      before : List Row
      before = filter (of_mask mask) rows

      step : (b : Bool) → of_mask mask x ≡ b → after ≡ before → cond b (changed x ∷ after) after ≡ cond b (x ∷ before) before
      step true is e = ap (λ c. cond c (put_actions serials x) x ∷ after) (all.0 is) ∙ ap (λ ys. x ∷ ys) e
      step false is e = e

  pub words_changed : (rows : List Row) → words_at mask (change_where test (put_actions serials) rows) ≡ words_at mask rows
  words_changed [] = refl
  words_changed (x ∷ rows) = ap (λ b. words_in (cond b (Some (changed x)) after)) (still (test x) x) ∙ step (of_mask mask x) (test x) (words_changed rows)
    where
      after : Option Row
      after = first_where (of_mask mask) (change_where test (put_actions serials) rows)

      before : Option Row
      before = first_where (of_mask mask) rows

      step : (b c : Bool) → words_in after ≡ words_in before → words_in (cond b (Some (cond c (put_actions serials x) x)) after) ≡ words_in (cond b (Some x) before)
      step true true e = refl
      step true false e = refl
      step false c e = e

  one_changed : (b : Bool) (x : Row) → filter_of (cond b (put_actions serials x) x) ≡ cond b (record (filter_of x) { actions = serials }) (filter_of x)
  one_changed true x = refl
  one_changed false x = refl

  pub filters_changed : (handle : ℕ) (rows : List Row) → Each (IsHandleIn mask test handle) rows →
      filters_at mask (change_where test (put_actions serials) rows) ≡ with_actions handle serials (filters_at mask rows)
  filters_changed handle [] all = refl
  filters_changed handle (x ∷ rows) all = ap (λ b. map filter_of (cond b (changed x ∷ after) after)) (still (test x) x) ∙ step (of_mask mask x) refl (filters_changed handle rows all.1)
    where
      after : List Row
      after = filter (of_mask mask) (change_where test (put_actions serials) rows)

      before : List Row
      before = filter (of_mask mask) rows

      step : (b : Bool) → of_mask mask x ≡ b → map filter_of after ≡ with_actions handle serials (map filter_of before) →
          map filter_of (cond b (changed x ∷ after) after) ≡ with_actions handle serials (map filter_of (cond b (x ∷ before) before))
      step true is e =
          ap (λ f. f ∷ map filter_of after) (one_changed (test x) x ∙ ap (λ b. cond b (record (filter_of x) { actions = serials }) (filter_of x)) (all.0 is))
          ∙ ap (λ fs. cond (has_handle handle x) (record (filter_of x) { actions = serials }) (filter_of x) ∷ fs) e
      step false is e = e
