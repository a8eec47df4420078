-- Filters that are deleted, and tables.
use Rattle.std.proofs.Common.{◌≡◌, ℕ, ◌+◌, ◌<◌, ◌&&◌, eqb, List, Option, Some, None, Ok, length, sym, ◌∙◌, ap, subst, arith, eqb-true}
use Rattle.std.specs.List.{IsDistinct}
use Rattle.std.proofs.lemmas.Bool.{and_parts}
use Rattle.tc_base.specs.declared.hook.Hook.{Hook}
use Rattle.tc_base.specs.declared.hook.Proto.{Proto}
use Rattle.filter_state.specs.declared.edit.Edit.TheVariants as edits
use Rattle.filter_state.specs.declared.refusal.Done.{Done}
use Rattle.filter_state.specs.States.{Row, State}
use Rattle.filter_state.specs.Sound.{Sound, IsRow}
use Rattle.filter_state.specs.Tables.{in_table, has_handle, filter_row}
use Rattle.filter_state.specs.Steps.{step}
use Rattle.filter_state.proofs.Pairs.{found}
use Rattle.hook_store_law.specs.OfEffects.Parts.{Stands, filters_of, without}
use Rattle.hook_store_law.specs.OfEffects.Effects.{ChangesHook}
use Rattle.hook_store_law.proofs.OfEffects.Deleting.{filter_deleted, table_deleted}
use Rattle.hook_law.specs.Standing.{IsIn}
use Rattle.desk_needs.specs.Live.{count_of}
use Rattle.desk_needs.proofs.OfEditNeeds.Counted.{counted, one_less}
use Rattle.desk_needs.specs.OfLiveCounts.Counts.{FilterGoes, MasksGo}
use Rattle.desk_needs.proofs.OfLiveCounts.Changes.{OthersKeep, same_count, standing, goes_from, masks_go}

-- ---- one filter
record OneGoes (s t : State) (mask : ℕ) : Type 0 where
  less : count_of t mask + 1 ≡ count_of s mask
  others : OthersKeep s t mask

one_goes : (s t : State) (hook : Hook) (protocol : Option Proto) (chain pref handle : ℕ) (done : Done) (row : Row) → Sound s → step s (edits.FilterDel hook protocol chain pref (Some handle)) ≡ Ok (t, done)
    → filter_row hook chain pref handle s.rows ≡ Some row → OneGoes s t row.mask_serial
one_goes s t hook protocol chain pref handle done row sound e is =
    let m : ℕ = row.mask_serial in
    let gone = filter_deleted s t hook protocol chain pref handle done sound e in
    let same : gone.0 ≡ row = same_row gone.0 row (sym gone.1.0 ∙ is) in
    let named : row.handle ≡ handle = (let test = (found (IsRow s) (λ x. in_table hook chain pref x && has_handle handle x) s.rows row sound.rows is).1 in
    eqb-true row.handle handle (and_parts (in_table hook chain pref row) (has_handle handle row) test).1) in
    let filters : filters_of t m ≡ without handle (filters_of s m) = subst (λ (x : Row). filters_of t x.mask_serial ≡ without handle (filters_of s x.mask_serial)) same gone.1.1 in
    let change : ChangesHook hook (λ mask. mask ≡ m) s t = subst (λ (x : Row). ChangesHook hook (λ mask. mask ≡ x.mask_serial) s t) same gone.1.2 in
    record {
      less = (let now = counted t m ∙ ap length filters ∙ ap (λ n. length (without n (filters_of s m))) (sym named) in let less = one_less s _ row sound is in omega (arith, now, less));
      others = λ n differs. same_count s t n (change.others n differs).filters;
    }
  where
    same_row : (x y : Row) → Some x ≡ Some y → x ≡ y
    same_row x y e = cc e

pub from_mask : (s t : State) (hook : Hook) (protocol : Option Proto) (chain pref handle : ℕ) (done : Done) (row : Row) → Sound s → step s (edits.FilterDel hook protocol chain pref (Some handle)) ≡ Ok (t, done)
    → filter_row hook chain pref handle s.rows ≡ Some row → 1 < count_of s row.mask_serial → FilterGoes s t (count_of s row.mask_serial)
from_mask s t hook protocol chain pref handle done row sound e is more =
    let one = one_goes s t hook protocol chain pref handle done row sound e is in
    let less = one.less in
    goes_from s t row.mask_serial one.others (omega (arith, more, less)) less

-- ---- masks
module _ (s t : State) (gone : List ℕ) (different : IsDistinct eqb gone) (each : (mask : ℕ) → IsIn mask gone → Stands s mask × (Stands t mask → ⊥))
    (every : (mask : ℕ) → Stands s mask → (Stands t mask → ⊥) → IsIn mask gone) (sound : Sound s) where
  pub last_of_mask : (hook : Hook) (protocol : Option Proto) (chain pref handle : ℕ) (done : Done) (row : Row) → step s (edits.FilterDel hook protocol chain pref (Some handle)) ≡ Ok (t, done)
      → filter_row hook chain pref handle s.rows ≡ Some row → count_of s row.mask_serial ≡ 1 → MasksGo s t gone
  last_of_mask hook protocol chain pref handle done row e is alone =
      let m : ℕ = row.mask_serial in
      let one = one_goes s t hook protocol chain pref handle done row sound e is in
      let none : count_of t m ≡ 0 = (let less = one.less in omega (arith, less, alone)) in
      let stood : Stands s m = standing s m (omega (arith, alone)) in
      masks_go s t gone different each every
      (λ n spare. one.others n (λ same. spare (subst (Stands s) (sym same) stood) (ap (count_of t) same ∙ none)))

  pub table : (hook : Hook) (protocol : Option Proto) (chain pref : ℕ) (done : Done) → step s (edits.FilterDel hook protocol chain pref None) ≡ Ok (t, done) → MasksGo s t gone
  table hook protocol chain pref done e =
      let change = table_deleted s t hook protocol chain pref done sound e in
      masks_go s t gone different each every
      (λ n spare. same_count s t n (change.others n (λ went. spare went.1 (counted t n ∙ ap length went.0))).filters)
