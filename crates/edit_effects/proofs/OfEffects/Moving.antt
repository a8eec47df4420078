-- A filter is replaced by one with another key or mask: it leaves its place, and the new one comes last.
use Rattle.std.proofs.Common.{◌≡◌, ◌≢◌, ◌⊎◌, inl, inr, ℕ, ◌==◌, Bool, true, false, not, List, [], ◌∷◌, ◌++◌, Some, None, refl, sym, ◌∙◌, ap, subst, eq-eqb, eqb-true}
use Rattle.std.specs.Prelude.{filter}
use Rattle.std.specs.List.{list_any}
use Rattle.std.proofs.lemmas.Bool.{eqb-false}
use Rattle.tc_base.specs.declared.hook.Hook.{Hook}
use Rattle.filter_state.specs.declared.edit.FilterLine.{FilterLine}
use Rattle.filter_state.specs.States.{State, Row}
use Rattle.filter_state.specs.Actions.{Resolved}
use Rattle.filter_state.specs.Order.{of_mask}
use Rattle.filter_state.specs.Refusals.{protocol_clash, masks_full}
use Rattle.filter_state.specs.Steps.{with_row, with_actions, without_row, mask_serial_for}
use Rattle.filter_state.specs.Sound.{Sound, Each}
use Rattle.filter_state.proofs.Pairs.{each_filter, found}
use Rattle.state_laws.proofs.Room.{found_any}
use Rattle.state_laws.proofs.Fits.{TableFits, MaskFits}
use Rattle.state_laws.proofs.Old.{is_old, IsOld, old_found}
use Rattle.row_laws.proofs.OfLookups.Heads.{any_left}
use Rattle.filter_tables.specs.Changes.{is_none_left}
use Rattle.edit_effects.specs.OfEffects.Parts.{Stands, filter_of, filters_of, without}
use Rattle.edit_effects.specs.OfEffects.Effects.{KeepsTables, KeepsMask, HasMask, ChangesHook}
use Rattle.edit_effects.proofs.OfEffects.Sorted.{bare}
use Rattle.edit_effects.proofs.OfEffects.Heads.{LookAlike, tables_on, tables_last, tables_in_place, tables_taken}
use Rattle.edit_effects.proofs.OfEffects.Alike.{HasWords, look_alike, all_alike, new_alike, new_words}
use Rattle.edit_effects.proofs.OfEffects.Masks.{words_at, filters_at, filters_same, words_same, words_are, other_last, filters_last, filters_without}
use Rattle.edit_effects.proofs.OfEffects.Pushed.{other_tables_pushed, tables_pushed, own_words_pushed, words_pushed}
use Rattle.edit_effects.proofs.OfEffects.Taken.{other_mask_taken, other_tables_taken, tables_keep, words_keep}
use Rattle.edit_effects.proofs.OfEffects.Adding.{line_filter}
use Rattle.edit_effects.proofs.OfEffects.Replacing.{exchanged_actions, is_there, old_handles, moved_row, fit}

abbrev pub moved : State → FilterLine → Row → Resolved → State
moved s line old r = with_actions (with_row (record s { rows = without_row old s.rows }) (moved_row s line old r.serials)) (exchanged_actions old r)

-- ---- what it comes to, in the filter's own mask and in another
abbrev pub MovesKey : State → FilterLine → Row → ℕ → List ℕ → State → Type 0
MovesKey s line old handle serials t = HasMask old.mask_serial line.mask.words (without handle (filters_of s old.mask_serial) ++ line_filter line handle serials ∷ []) t
    × ChangesHook line.hook (λ m. m ≡ old.mask_serial) s t × KeepsTables s t

abbrev pub MovesMask : State → FilterLine → Row → ℕ → List ℕ → State → ℕ → Type 0
MovesMask s line old handle serials t mask = HasMask mask line.mask.words (filters_of s mask ++ line_filter line handle serials ∷ []) t
    × (filters_of t old.mask_serial ≡ without handle (filters_of s old.mask_serial)) × ChangesHook line.hook (λ other. (other ≡ mask) ⊎ (other ≡ old.mask_serial)) s t
    × (Stands s mask → Stands t old.mask_serial → KeepsTables s t)

-- rows of which those of a mask are the same
stands_alike : (mask : ℕ) (xs ys : List Row) → filter (of_mask mask) xs ≡ filter (of_mask mask) ys → list_any (of_mask mask) ys ≡ true → list_any (of_mask mask) xs ≡ true
stands_alike mask xs ys same some = any_left (of_mask mask) xs ∙ ap (λ rows. not (is_none_left rows)) same ∙ sym (any_left (of_mask mask) ys) ∙ some

-- ---- what is known of the replace
pub record Known (s : State) (line : FilterLine) (old : Row) : Type 0 where
  pub is : IsOld s line old
  pub tables : Each (TableFits line.hook line.chain old.pref line.protocol old.table) s.rows
  pub masks : Each (MaskFits old.table line.mask.words (mask_serial_for s line old)) s.rows

pub known : (s : State) (line : FilterLine) (old : Row) → Sound s → is_there s line ≡ Some old → protocol_clash s line.hook line.chain old.pref line.protocol ≡ None →
    masks_full s line.hook line.chain old.pref line.mask.words ≡ None → Known s line old
known s line old sound is agrees room =
    let old_is = old_found s line old sound is in
    let fits = fit s line old sound old_is agrees room in
    record { is = old_is; tables = fits.tables; masks = fits.masks }

module _ (s : State) (line : FilterLine) (old : Row) (r : Resolved) (k : Known s line old) where
  abbrev mask : ℕ
  mask = mask_serial_for s line old

  abbrev new : Row
  new = moved_row s line old r.serials

  abbrev left : List Row
  left = without_row old s.rows

  abbrev stays : Row → Bool
  stays x = not (is_old old x)

  new_like : Each (LookAlike new) left
  new_like = each_filter (LookAlike new) stays s.rows (new_alike new s.rows k.tables k.masks)

  worded : Each (HasWords mask line.mask.words) left
  worded = each_filter (HasWords mask line.mask.words) stays s.rows (new_words old.table mask line.mask.words s.rows k.masks)

  -- ---- masks and hooks that aren't concerned
  other_rows : (other : ℕ) → other ≢ mask → other ≢ old.mask_serial → filter (of_mask other) (left ++ new ∷ []) ≡ filter (of_mask other) s.rows
  other_rows other first second = let is = k.is in other_last other left new first ∙ other_mask_taken (is_old old) old s.rows is.only other second

  other_stays : (other : ℕ) → other ≢ mask → other ≢ old.mask_serial → KeepsMask other s (moved s line old r)
  other_stays other first second = record {
    words = words_same other (left ++ new ∷ []) s.rows (other_rows other first second);
    filters = filters_same other (left ++ new ∷ []) s.rows (other_rows other first second);
  }

  other_tables : (hook : Hook) → hook ≢ line.hook → tables_on hook (left ++ new ∷ []) ≡ tables_on hook s.rows
  other_tables hook differs = let is = k.is in other_tables_pushed new left hook differs ∙ other_tables_taken (is_old old) old s.rows is.only hook (λ e. differs (e ∙ is.hook))

  without_old : filters_at old.mask_serial left ≡ without old.handle (filters_of s old.mask_serial)
  without_old = let is = k.is in filters_without old.mask_serial (is_old old) old.handle s.rows (old_handles old s.rows is.akin)

  -- ---- another key in the same mask
  module _ (same : mask ≡ old.mask_serial) where
    in_its_place : bare new ≡ bare old
    in_its_place =
        let is = k.is in
        let own = (found (TableFits line.hook line.chain old.pref line.protocol old.table) (is_old old) s.rows old k.tables is.first).0 in
        let at = own.same refl in
        look_alike new old (sym is.hook) (sym is.chain) refl (sym at.3) refl same

    same_tables : (hook : Hook) → tables_on hook (left ++ new ∷ []) ≡ tables_on hook s.rows
    same_tables hook =
        let is = k.is in
        tables_last hook new left new_like ∙ tables_in_place hook new old left in_its_place ∙ sym (tables_taken hook (is_old old) old s.rows is.only (all_alike old s.rows is.akin))

    stood : list_any (of_mask mask) s.rows ≡ true
    stood = let is = k.is in found_any (is_old old) (of_mask mask) s.rows old is.first (eq-eqb old.mask_serial mask (sym same))

    words_case : (other : ℕ) (b : Bool) → (other == mask) ≡ b → words_at other (left ++ new ∷ []) ≡ words_at other s.rows
    words_case other true at =
        subst (λ m. words_at m (left ++ new ∷ []) ≡ words_at m s.rows) (sym (eqb-true other mask at))
        (own_words_pushed new left worded ∙ sym (words_are mask line.mask.words s.rows (new_words old.table mask line.mask.words s.rows k.masks) stood))
    words_case other false at =
        let differs = eqb-false other mask at in
        words_same other (left ++ new ∷ []) s.rows (other_rows other differs (λ e. differs (e ∙ sym same)))

    pub key_moved : MovesKey s line old old.handle r.serials (moved s line old r)
    key_moved = (
      record {
        words_are = subst (λ m. words_at m (left ++ new ∷ []) ≡ line.mask.words) same (own_words_pushed new left worded);
        filters_are = subst (λ m. filters_at m (left ++ new ∷ []) ≡ filters_at m left ++ filter_of new ∷ []) same (filters_last left new) ∙ ap (λ fs. fs ++ filter_of new ∷ []) without_old;
      },
      record { heads = other_tables; others = λ other differs. other_stays other (λ e. differs (e ∙ same)) differs },
      record { heads = same_tables; words = λ other. words_case other (other == mask) refl },
    )

  -- ---- another mask
  module _ (apart : mask ≢ old.mask_serial) where
    tables_stay : Stands s mask → Stands (moved s line old r) old.mask_serial → KeepsTables s (moved s line old r)
    tables_stay stood stands =
        let is = k.is in
        let there = stands_alike mask left s.rows (other_mask_taken (is_old old) old s.rows is.only mask apart) stood in
        let still = stands_alike old.mask_serial left (left ++ new ∷ []) (sym (other_last old.mask_serial left new (λ e. apart (sym e)))) stands in
        record {
          heads = λ hook. tables_pushed new left hook new_like there ∙ tables_keep (is_old old) old s.rows is.only is.akin still hook;
          words = λ other. words_pushed new left other worded there ∙ words_keep (is_old old) old s.rows is.only is.akin still other;
        }

    pub mask_moved : MovesMask s line old old.handle r.serials (moved s line old r) mask
    mask_moved = let is = k.is in (
      record {
        words_are = own_words_pushed new left worded;
        filters_are = filters_last left new ∙ ap (λ fs. fs ++ filter_of new ∷ []) (filters_same mask left s.rows (other_mask_taken (is_old old) old s.rows is.only mask apart));
      },
      filters_same old.mask_serial (left ++ new ∷ []) left (other_last old.mask_serial left new (λ e. apart (sym e))) ∙ without_old,
      record { heads = other_tables; others = λ other differs. other_stays other (λ e. differs (inl e)) (λ e. differs (inr e)) },
      tables_stay,
    )
