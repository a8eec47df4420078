-- A filter is added to a mask that stands, replaced in its place, or deleted from a mask that keeps another.
use Rattle.std.proofs.Common.{◌≡◌, inl, inr, ℕ, ◌&&◌, Bool, List, Option, Some, Ok, sym, ◌∙◌, ap, subst, eqb-true}
use Rattle.std.specs.Option.{unwrap_or}
use Rattle.std.proofs.lemmas.Bool.{and_parts}
use Rattle.std.proofs.lemmas.Option.{same_Some}
use Rattle.tc_base.specs.declared.hook.Hook.{Hook}
use Rattle.tc_base.specs.declared.hook.Proto.{Proto}
use Rattle.store_history.specs.declared.history.Commit.{Commit}
use Rattle.filter_state.specs.declared.edit.Edit.{Edit}
use Rattle.filter_state.specs.declared.edit.Edit.TheVariants as edits
use Rattle.filter_state.specs.declared.edit.FilterLine.{FilterLine}
use Rattle.filter_state.specs.declared.refusal.Done.{Done}
use Rattle.filter_state.specs.declared.refusal.Done.TheVariants as dones
use Rattle.filter_state.specs.States.{Row, State}
use Rattle.filter_state.specs.Tables.{in_table, has_handle, mask_row, filter_row}
use Rattle.filter_state.specs.Steps.{filter_add, replace_or_add, step}
use Rattle.filter_state.specs.Sound.{Sound}
use Rattle.state_laws.proofs.Room.{first_passes}
use Rattle.edit_effects.specs.OfEffects.Parts.{Stands, filters_of}
use Rattle.edit_effects.specs.OfEffects.Parts.{without as parts_without}
use Rattle.hook_law.specs.Records.{StatedFilter}
use Rattle.hook_law.specs.Changes.{KeepsParams, GainsFilter}
use Rattle.hook_meaning.specs.Stated.{hook_meaning}
use Rattle.edit_effects.specs.OfEffects.Effects.{ChangesMask, ChangesHook, with_actions}
use Rattle.edit_effects.proofs.OfEffects.Accepted.{same_filter}
use Rattle.edit_effects.proofs.OfEffects.Added.{added_to_old}
use Rattle.edit_effects.proofs.OfEffects.Adding.{line_filter}
use Rattle.edit_effects.proofs.OfEffects.Deleting.{filter_deleted}
use Rattle.edit_effects.proofs.OfEffects.InPlace.{replaced_in_place}
use Rattle.edit_effects.proofs.OfEffects.Replacing.{replaces}
use Rattle.hook_meaning.specs.OfEdits.Premises.{now, next, IsAccepted, IsOfFilters, IsAddOf, named_row, filter_of_line, Swaps, Loses}
use Rattle.hook_meaning.proofs.OfEdits.Accepted.{sound, at_next}
use Rattle.hook_meaning.proofs.OfEdits.Masks.{gains, swaps, loses}
use Rattle.hook_meaning.proofs.OfEdits.OfFilters.{params_to}

-- ---- added
-- both edits that add a line's filter are of filters, and step alike
pub add_is : (s : State) (line : FilterLine) (y : Edit) → IsAddOf s line y → IsOfFilters y × (step s y ≡ filter_add s line)
add_is s line y (inl is) = (subst IsOfFilters (sym is) tt, ap (step s) is)
add_is s line y (inr is) = (subst IsOfFilters (sym is.0) tt, ap (step s) is.0 ∙ ap (replace_or_add s line) is.1)

module _ (h : List (Commit Edit)) (b : ℕ) (y : Edit) (t : State) (line : FilterLine) (pref handle : ℕ) (serials : List ℕ)
    (a : IsAccepted h b y t (dones.Filter pref handle serials)) (is : IsAddOf (now h) line y) where
  pub add_params : KeepsParams hook_meaning (now h) t
  add_params = params_to h b y t (dones.Filter pref handle serials) a (add_is (now h) line y is).0

  pub adds_line : filter_add (now h) line ≡ Ok (t, dones.Filter pref handle serials)
  adds_line = sym (add_is (now h) line y is).1 ∙ a.steps

  pub gains_after : (row : Row) → mask_row line.hook line.chain pref line.mask.words (now h).rows ≡ Some row
      → GainsFilter hook_meaning (now h) (next h y) row.mask_serial (filter_of_line line handle serials)
  gains_after row there =
      let s : State = now h in
      let done : Done = dones.Filter pref handle serials in
      at_next h b y t done a (λ u. GainsFilter hook_meaning s u row.mask_serial (filter_of_line line handle serials))
      (gains s t row.mask_serial (line_filter line handle serials) (added_to_old s t line pref handle serials row (sound h b y t done a) adds_line there) add_params)

-- ---- replaced in its place
swaps_line : (s t : State) (line : FilterLine) (pref handle : ℕ) (serials : List ℕ) (row : Row) → Sound s → step s (edits.FilterReplace line) ≡ Ok (t, dones.Filter pref handle serials)
    → named_row s line ≡ Some row → row.mask ≡ line.mask.words → row.key ≡ line.key.words → KeepsParams hook_meaning s t
    → Swaps row.mask_serial (filter_of_line line handle serials) s t
swaps_line s t line pref handle serials row s_sound e is mask key params =
    let done : Done = dones.Filter pref handle serials in
    let r = replaces s t line row done is e in
    let same = (same_filter row.pref pref row.handle handle r.r.serials serials r.answer).1 in
    let changed = replaced_in_place s t line pref handle serials row s_sound e is mask key in
    let own = subst (λ n. ChangesMask row.mask_serial (with_actions n serials (filters_of s row.mask_serial)) s t) (sym same) changed in
    let test : Row → Bool = λ x. in_table line.hook line.chain (unwrap_or line.pref 0) x && has_handle (unwrap_or line.handle 0) x in
    let new : ℕ → List ℕ → StatedFilter = λ n words. record { handle = n; key = words; actions = serials } in
    subst (λ n. Swaps row.mask_serial (new n line.key.words) s t) same
    (subst (λ words. Swaps row.mask_serial (new row.handle words) s t) key (swaps s t test row serials s_sound is own params))

pub swaps_after : (h : List (Commit Edit)) (b : ℕ) (t : State) (line : FilterLine) (pref handle : ℕ) (serials : List ℕ) (row : Row)
    → IsAccepted h b (edits.FilterReplace line) t (dones.Filter pref handle serials) → named_row (now h) line ≡ Some row
    → row.mask ≡ line.mask.words → row.key ≡ line.key.words → Swaps row.mask_serial (filter_of_line line handle serials) (now h) (next h (edits.FilterReplace line))
swaps_after h b t line pref handle serials row a is mask key =
    let y : Edit = edits.FilterReplace line in
    let done : Done = dones.Filter pref handle serials in
    at_next h b y t done a (λ u. Swaps row.mask_serial (filter_of_line line handle serials) (now h) u)
    (swaps_line (now h) t line pref handle serials row (sound h b y t done a) a.steps is mask key (params_to h b y t done a tt))

-- ---- deleted
module _ (s t : State) (hook : Hook) (protocol : Option Proto) (chain pref handle : ℕ) (done : Done) (s_sound : Sound s)
    (e : step s (edits.FilterDel hook protocol chain pref (Some handle)) ≡ Ok (t, done)) where
  pub row_there : (row : Row) × (filter_row hook chain pref handle s.rows ≡ Some row)
  row_there = let left = filter_deleted s t hook protocol chain pref handle done s_sound e in (left.0, left.1.0)

  module _ (row : Row) (is : filter_row hook chain pref handle s.rows ≡ Some row) where
    same_row : row_there.0 ≡ row
    same_row = same_Some row_there.0 row (sym row_there.1 ∙ is)

    own_handle : row.handle ≡ handle
    own_handle =
        eqb-true row.handle handle
        (and_parts (in_table hook chain pref row) (has_handle handle row) (first_passes (λ x. in_table hook chain pref x && has_handle handle x) s.rows row is)).1

    pub row_hook_changes : ChangesHook hook (λ mask. mask ≡ row.mask_serial) s t
    unfolding row_there
    row_hook_changes =
        subst (λ (x : Row). ChangesHook hook (λ mask. mask ≡ x.mask_serial) s t) same_row (filter_deleted s t hook protocol chain pref handle done s_sound e).1.2

    row_mask_changes : Stands t row.mask_serial → ChangesMask row.mask_serial (parts_without row.handle (filters_of s row.mask_serial)) s t
    unfolding row_there
    row_mask_changes stands =
        subst (λ n. ChangesMask row.mask_serial (parts_without n (filters_of s row.mask_serial)) s t) (sym own_handle)
        (subst (λ (x : Row). Stands t x.mask_serial → ChangesMask x.mask_serial (parts_without handle (filters_of s x.mask_serial)) s t) same_row
        (filter_deleted s t hook protocol chain pref handle done s_sound e).1.3 stands)

    pub loses_row : Stands t row.mask_serial → KeepsParams hook_meaning s t → Loses row.mask_serial handle s t
    loses_row stands params =
        subst (λ n. Loses row.mask_serial n s t) own_handle
        (loses s t (λ x. in_table hook chain pref x && has_handle handle x) row s_sound is (row_mask_changes stands) params)

pub there_after : (h : List (Commit Edit)) (b : ℕ) (hook : Hook) (protocol : Option Proto) (chain pref handle : ℕ) (t : State) (done : Done)
    → IsAccepted h b (edits.FilterDel hook protocol chain pref (Some handle)) t done → (row : Row) × (filter_row hook chain pref handle (now h).rows ≡ Some row)
there_after h b hook protocol chain pref handle t done a =
    row_there (now h) t hook protocol chain pref handle done (sound h b (edits.FilterDel hook protocol chain pref (Some handle)) t done a) a.steps

pub loses_after : (h : List (Commit Edit)) (b : ℕ) (hook : Hook) (protocol : Option Proto) (chain pref handle : ℕ) (t : State) (done : Done) (row : Row)
    → IsAccepted h b (edits.FilterDel hook protocol chain pref (Some handle)) t done → filter_row hook chain pref handle (now h).rows ≡ Some row
    → Stands t row.mask_serial → Loses row.mask_serial handle (now h) (next h (edits.FilterDel hook protocol chain pref (Some handle)))
loses_after h b hook protocol chain pref handle t done row a is stands =
    let y : Edit = edits.FilterDel hook protocol chain pref (Some handle) in
    at_next h b y t done a (λ u. Loses row.mask_serial handle (now h) u)
    (loses_row (now h) t hook protocol chain pref handle done (sound h b y t done a) a.steps row is stands (params_to h b y t done a tt))
