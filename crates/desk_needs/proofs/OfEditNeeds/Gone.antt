-- What a filter needs that is deleted.
use Rattle.std.proofs.Common.{◌≡◌, ℕ, ◌+◌, ◌-◌, ◌==◌, ◌&&◌, Bool, Option, Some, Ok, length, sym, ◌∙◌, ap, subst, arith, eqb-true}
use Rattle.std.specs.Prelude.{if◌then◌else◌}
use Rattle.std.proofs.lemmas.Bool.{and_parts}
use Rattle.std.proofs.lemmas.Bool.Decides.{nat_tests}
use Rattle.tc_base.specs.declared.hook.Hook.{Hook}
use Rattle.tc_base.specs.declared.hook.Proto.{Proto}
use Rattle.filter_state.specs.declared.edit.Edit.TheVariants as edits
use Rattle.filter_state.specs.declared.refusal.Done.{Done}
use Rattle.filter_state.specs.States.{Row, State}
use Rattle.filter_state.specs.Sound.{Sound, IsRow}
use Rattle.filter_state.specs.Tables.{in_table, has_handle, filter_row}
use Rattle.filter_state.specs.Steps.{step}
use Rattle.filter_state.specs.Journals.{state_after}
use Rattle.filter_state.proofs.Pairs.{found}
use Rattle.hook_store_law.specs.OfEffects.Parts.{filters_of, without}
use Rattle.hook_store_law.proofs.OfEffects.Deleting.{filter_deleted}
use Rattle.desk_needs.specs.Live.{count_of}
use Rattle.desk_needs.specs.declared.needs.Needs.{Needs}
use Rattle.desk_needs.specs.Needs.{nothing, later, deleted, needs_from, needs_of}
use Rattle.desk_needs.specs.OfEditNeeds.Told.{blocks_anew, rows_anew, taken_from}
use Rattle.desk_needs.proofs.OfEditNeeds.Counted.{counted, one_less}

-- a mask with none left had one
none_left : (left : ℕ) → (left == 0) ≡ (left + 1 == 1)
none_left left = grind (arith, nat_tests)

module _ (s : State) (hook : Hook) (row : Row) where
  abbrev count : ℕ
  count = count_of s row.mask_serial

  -- where so many filters are left, and the mask goes or not
  abbrev with_left : ℕ → Bool → Needs
  with_left left goes = if goes then record nothing { head = Some hook } else record nothing {
    blocks = later s row + blocks_anew count left;
    rows = rows_anew count left;
  }

  pub needs_gone : (t : State) (protocol : Option Proto) (chain pref handle : ℕ) (done : Done) → Sound s → step s (edits.FilterDel hook protocol chain pref (Some handle)) ≡ Ok (t, done)
      → filter_row hook chain pref handle s.rows ≡ Some row → needs_of s (edits.FilterDel hook protocol chain pref (Some handle)) ≡ taken_from hook s row
  needs_gone t protocol chain pref handle done sound e is =
      let gone = filter_deleted s t hook protocol chain pref handle done sound e in
      let same : gone.0 ≡ row = same_row gone.0 row (sym gone.1.0 ∙ is) in
      let named : row.handle ≡ handle = (let test = (found (IsRow s) (λ x. in_table hook chain pref x && has_handle handle x) s.rows row sound.rows is).1 in
      eqb-true row.handle handle (and_parts (in_table hook chain pref row) (has_handle handle row) test).1) in
      let filters : filters_of t row.mask_serial ≡ without handle (filters_of s row.mask_serial) = subst (λ (x : Row). filters_of t x.mask_serial ≡ without handle (filters_of s x.mask_serial)) same gone.1.1 in
      let left : count_of t row.mask_serial + 1 ≡ count = (let now = counted t row.mask_serial ∙ ap length filters ∙ ap (λ n. length (without n (filters_of s row.mask_serial))) (sym named) in
      let less = one_less s _ row sound is in omega (arith, now, less)) in
      let less : count_of t row.mask_serial ≡ count - 1 = omega (arith, left) in
      ap (λ stepped. needs_from s (state_after s stepped) (edits.FilterDel hook protocol chain pref (Some handle))) e ∙ ap (deleted s t hook) is
      ∙ ap (with_left (count_of t row.mask_serial)) (none_left (count_of t row.mask_serial) ∙ ap (λ n. n == 1) left) ∙ ap (λ n. with_left n (count == 1)) less
    where
      same_row : (x y : Row) → Some x ≡ Some y → x ≡ y
      same_row x y e = cc e
