-- A mask stays that had more filters than the one which is deleted.
use Rattle.std.proofs.Common.{◌≡◌, ◌∙◌, ℕ, ◌+◌, ◌<◌, ◌≤◌, ◌&&◌, ◌||◌, Bool, true, false, cond, List, [], ◌∷◌, length, Option, Some, Ok, refl, sym, ap, subst, arith, eqb-true}
use Rattle.std.specs.Prelude.{filter}
use Rattle.std.specs.List.{list_any}
use Rattle.std.proofs.lemmas.Bool.{and_parts}
use Rattle.tc_base.specs.declared.hook.Hook.{Hook}
use Rattle.tc_base.specs.declared.hook.Proto.{Proto}
use Rattle.filter_state.specs.declared.edit.Edit.TheVariants as edits
use Rattle.filter_state.specs.declared.refusal.Done.{Done}
use Rattle.filter_state.specs.Order.{of_mask}
use Rattle.filter_state.specs.States.{Row, State}
use Rattle.filter_state.specs.Sound.{Sound, IsRow}
use Rattle.filter_state.specs.Tables.{in_table, has_handle, filter_row}
use Rattle.filter_state.specs.Steps.{step}
use Rattle.filter_state.proofs.Pairs.{found}
use Rattle.hook_store_law.specs.OfEffects.Parts.{Stands, filters_of, without}
use Rattle.hook_store_law.proofs.OfEffects.Deleting.{filter_deleted}
use Rattle.desk_needs.specs.Live.{count_of}
use Rattle.desk_needs.proofs.OfEditNeeds.Counted.{counted, one_less}

some_passes : (test : Row → Bool) (rows : List Row) → 1 ≤ length (filter test rows) → list_any test rows ≡ true
some_passes test [] many = absurd (omega (arith, many))
some_passes test (row ∷ rows) many = elim (test row) as (λ (b : Bool). 1 ≤ length (cond b (row ∷ filter test rows) (filter test rows)) → ◌||◌ b (list_any test rows) ≡ true) [
  | true ↦ λ some. refl
  | false ↦ λ some. some_passes test rows some
] many

module _ (s t : State) (hook : Hook) (protocol : Option Proto) (chain pref handle : ℕ) (done : Done) (row : Row) (sound : Sound s)
    (steps : step s (edits.FilterDel hook protocol chain pref (Some handle)) ≡ Ok (t, done)) (is : filter_row hook chain pref handle s.rows ≡ Some row) where
  same_row : (x y : Row) → Some x ≡ Some y → x ≡ y
  same_row x y e = cc e

  pub own_handle : row.handle ≡ handle
  own_handle =
      let test = (found (IsRow s) (λ x. in_table hook chain pref x && has_handle handle x) s.rows row (let all = sound in all.rows) is).1 in
      eqb-true row.handle handle (and_parts (in_table hook chain pref row) (has_handle handle row) test).1

  one_left : count_of t row.mask_serial + 1 ≡ count_of s row.mask_serial
  one_left =
      let gone = filter_deleted s t hook protocol chain pref handle done sound steps in
      let same : gone.0 ≡ row = same_row gone.0 row (sym gone.1.0 ∙ is) in
      let filters : filters_of t row.mask_serial ≡ without handle (filters_of s row.mask_serial) = subst (λ (x : Row). filters_of t x.mask_serial ≡ without handle (filters_of s x.mask_serial)) same gone.1.1 in
      let left = counted t row.mask_serial ∙ ap length filters ∙ ap (λ (n : ℕ). length (without n (filters_of s row.mask_serial))) (sym own_handle) in
      let less = one_less s _ row sound is in omega (arith, left, less)

  pub stays : 1 < count_of s row.mask_serial → Stands t row.mask_serial
  stays many = let left = one_left in some_passes (of_mask row.mask_serial) t.rows (omega (arith, left, many))
