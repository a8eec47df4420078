-- A filter is deleted, or a table.
use Rattle.std.proofs.Common.{◌≡◌, ◌≢◌, ℕ, ◌&&◌, Bool, true, false, not, List, [], ◌∷◌, Option, Some, None, Ok, refl, sym, ◌∙◌, ap, subst, eqb-true}
use Rattle.std.specs.Prelude.{filter}
use Rattle.std.specs.List.{list_any}
use Rattle.std.proofs.lemmas.Bool.{false≢true, and_parts, false_from_ne_true, not-true}
use Rattle.tc_base.specs.declared.hook.Hook.{Hook}
use Rattle.tc_base.specs.declared.hook.Proto.{Proto}
use Rattle.filter_state.specs.declared.refusal.Done.{Done}
use Rattle.filter_state.specs.declared.refusal.Done.TheVariants as dones
use Rattle.filter_state.specs.declared.refusal.Refusal.{Refusal}
use Rattle.filter_state.specs.declared.refusal.Refusal.TheVariants as refusals
use Rattle.filter_state.specs.States.{State, Row}
use Rattle.filter_state.specs.Tables.{in_hook, in_table, has_handle, filter_row}
use Rattle.filter_state.specs.Order.{of_mask}
use Rattle.filter_state.specs.Refusals.{or_else, no_hook, protocol_clash_if, no_such_table, no_such_filter}
use Rattle.filter_state.specs.Steps.{taken_out, filter_del}
use Rattle.filter_state.specs.Sound.{Sound, Each, EachPair, GoTogether}
use Rattle.state_laws.proofs.Answers.{not_refused, not_not, neither}
use Rattle.filter_state.proofs.Pairs.{each_of, each_weaker, each_both, each_filter, each_passing, pairs_weaker, found, any_first, none_any}
use Rattle.state_laws.proofs.Tests.{row_in_table, row_in_table_from}
use Rattle.state_laws.proofs.Fits.{Akin, all_akin}
use Rattle.state_laws.proofs.Places.{NotBoth, only_one}
use Rattle.walk_rules.proofs.Listed.{any_has}
use Rattle.edit_effects.specs.OfEffects.Parts.{Stands, filters_of, without}
use Rattle.edit_effects.specs.OfEffects.Effects.{KeepsMask, ChangesMask, ChangesHook}
use Rattle.edit_effects.proofs.OfEffects.Accepted.{not_unless, same_step}
use Rattle.edit_effects.proofs.OfEffects.Kept.{spared}
use Rattle.edit_effects.proofs.OfEffects.Sorted.{tables_of}
use Rattle.edit_effects.proofs.OfEffects.Masks.{IsHandleIn, filters_same, words_same, no_filters, filters_without}
use Rattle.edit_effects.proofs.OfEffects.Pushed.{not_on}
use Rattle.edit_effects.proofs.OfEffects.Taken.{other_mask_taken, other_tables_taken, tables_keep, words_keep}

-- rows of one table as one of them
in_same_table : (hook : Hook) (chain pref : ℕ) (x y : Row) → Akin x y → x.table ≡ y.table → in_table hook chain pref x ≡ true → in_table hook chain pref y ≡ true
in_same_table hook chain pref x y akin same is =
    let at = row_in_table hook chain pref x is in
    let there = akin.same_table same in
    row_in_table_from hook chain pref y (sym there.0 ∙ at.0) (sym there.1 ∙ at.1) (sym there.2 ∙ at.2)

-- ---- one filter
abbrev is_it : Hook → ℕ → ℕ → ℕ → Row → Bool
is_it hook chain pref handle row = in_table hook chain pref row && has_handle handle row

one_at_most : (hook : Hook) (chain pref handle : ℕ) (x y : Row) → GoTogether x y → NotBoth (is_it hook chain pref handle) x y
one_at_most hook chain pref handle x y go here there =
    let a = and_parts (in_table hook chain pref x) (has_handle handle x) here in
    let b = and_parts (in_table hook chain pref y) (has_handle handle y) there in
    let at = row_in_table hook chain pref x a.0 in
    let by = row_in_table hook chain pref y b.0 in
    go.handles (go.one_table (at.0 ∙ sym by.0) (at.1 ∙ sym by.1) (at.2 ∙ sym by.2)) (eqb-true x.handle handle a.1 ∙ sym (eqb-true y.handle handle b.1))

record IsOne (hook : Hook) (chain pref handle : ℕ) (rows : List Row) (old : Row) : Type 0 where
  only : filter (is_it hook chain pref handle) rows ≡ old ∷ []
  akin : Each (Akin old) rows
  on : old.hook ≡ hook
  handles : Each (IsHandleIn old.mask_serial (is_it hook chain pref handle) handle) rows

the_one : (hook : Hook) (chain pref handle : ℕ) (rows : List Row) (old : Row) → EachPair GoTogether rows → filter_row hook chain pref handle rows ≡ Some old → IsOne hook chain pref handle rows old
the_one hook chain pref handle rows old pairs first =
    let test : Row → Bool = is_it hook chain pref handle in
    let mine = found (λ x. Each (Akin x) rows) test rows old (all_akin rows pairs) first in
    let at = and_parts (in_table hook chain pref old) (has_handle handle old) mine.1 in
    let place = row_in_table hook chain pref old at.0 in
    record {
      only = only_one test rows old (pairs_weaker GoTogether (NotBoth test) (one_at_most hook chain pref handle) rows pairs) first;
      akin = mine.0;
      on = place.0;
      handles = each_weaker (Akin old) (IsHandleIn old.mask_serial test handle)
          (λ x akin of. let table = (akin.same_mask (sym (eqb-true x.mask_serial old.mask_serial of))).0 in
          ap (λ b. b && has_handle handle x) (in_same_table hook chain pref old x akin table at.0)) rows mine.0;
    }

abbrev LeavesMask : Hook → ℕ → ℕ → ℕ → State → State → Row → Type 0
LeavesMask hook chain pref handle s t row = (filter_row hook chain pref handle s.rows ≡ Some row) × (filters_of t row.mask_serial ≡ without handle (filters_of s row.mask_serial))
    × ChangesHook hook (λ mask. mask ≡ row.mask_serial) s t × (Stands t row.mask_serial → ChangesMask row.mask_serial (without handle (filters_of s row.mask_serial)) s t)

one_taken_out : (hook : Hook) (chain pref handle : ℕ) (s : State) (old : Row) → filter_row hook chain pref handle s.rows ≡ Some old → IsOne hook chain pref handle s.rows old →
    LeavesMask hook chain pref handle s (taken_out s (is_it hook chain pref handle)) old
one_taken_out hook chain pref handle s old first is =
    let gone : Row → Bool = is_it hook chain pref handle in
    let left : List Row = filter (λ x. not (gone x)) s.rows in
    let filters = filters_without old.mask_serial gone handle s.rows is.handles in (
      first,
      filters,
      record {
        heads = λ other differs. other_tables_taken gone old s.rows is.only other (λ e. differs (e ∙ is.on));
        others = λ mask differs. record {
          words = words_same mask left s.rows (other_mask_taken gone old s.rows is.only mask differs);
          filters = filters_same mask left s.rows (other_mask_taken gone old s.rows is.only mask differs);
        };
      },
      λ some. record {
        tables = record { heads = tables_keep gone old s.rows is.only is.akin some; words = words_keep gone old s.rows is.only is.akin some };
        filters = filters;
        others = λ mask differs. filters_same mask left s.rows (other_mask_taken gone old s.rows is.only mask differs);
      },
    )

pub filter_deleted : (s t : State) (hook : Hook) (protocol : Option Proto) (chain pref handle : ℕ) (done : Done) → Sound s → filter_del s hook protocol chain pref (Some handle) ≡ Ok (t, done) →
    (row : Row) × LeavesMask hook chain pref handle s t row
filter_deleted s t hook protocol chain pref handle done sound e =
    let gone : Row → Bool = is_it hook chain pref handle in
    let clash : Option Refusal = protocol_clash_if s hook chain pref protocol in
    let table : Option Refusal = no_such_table s hook chain pref in
    let filter : Option Refusal = no_such_filter s hook chain pref handle in
    let step = not_unless (or_else (no_hook s) (or_else clash (or_else table filter))) (Ok (taken_out s gone, dones.FilterGone)) (t, done) e in
    let there = (neither table filter (neither clash (or_else table filter) (neither (no_hook s) (or_else clash (or_else table filter)) step.0).1).1).1 in
    let first = any_first gone s.rows (not_not (list_any gone s.rows) (not_refused (not (list_any gone s.rows)) refusals.NoSuchFilter there)) in
    let same = same_step (taken_out s gone) t dones.FilterGone done step.1 in (
      first.0,
      subst (λ u. LeavesMask hook chain pref handle s u first.0) same.0
          (one_taken_out hook chain pref handle s first.0 first.1 (the_one hook chain pref handle s.rows first.0 sound.together first.1)),
    )

-- ---- a table
abbrev OtherMask : Hook → ℕ → ℕ → ℕ → Row → Type 0
OtherMask hook chain pref mask x = in_table hook chain pref x ≡ true → of_mask mask x ≡ false

-- a mask with a row in another table has none in this one
other_masks : (hook : Hook) (chain pref mask : ℕ) (rows : List Row) → EachPair GoTogether rows → list_any (of_mask mask) (filter (λ x. not (in_table hook chain pref x)) rows) ≡ true →
    Each (OtherMask hook chain pref mask) rows
other_masks hook chain pref mask rows pairs some =
    let gone : Row → Bool = in_table hook chain pref in
    let stay : Row → Bool = λ x. not (gone x) in
    let one = any_has (λ x. Each (Akin x) rows × (stay x ≡ true)) (of_mask mask) (filter stay rows)
    (each_both (λ x. Each (Akin x) rows) (λ x. stay x ≡ true) (λ x. Each (Akin x) rows × (stay x ≡ true)) (λ x akin is. (akin, is)) (filter stay rows)
    (each_filter (λ x. Each (Akin x) rows) stay rows (all_akin rows pairs)) (each_passing stay rows)) some in
    each_weaker (Akin one.0) (OtherMask hook chain pref mask)
    (λ x akin is. false_from_ne_true (of_mask mask x)
    (λ of. let table = (akin.same_mask (eqb-true one.0.mask_serial mask one.1 ∙ sym (eqb-true x.mask_serial mask of))).0 in
    let at = row_in_table hook chain pref x is in
    let there = akin.same_table table in
    false≢true (sym (not-true (gone one.0) one.2.1) ∙ row_in_table_from hook chain pref one.0 (there.0 ∙ at.0) (there.1 ∙ at.1) (there.2 ∙ at.2)))) rows one.2.0

-- a mask that is gone stood, and has no filters left
abbrev IsGone : State → State → ℕ → Type 0
IsGone s t mask = (filters_of t mask ≡ []) × Stands s mask

module _ (s : State) (hook : Hook) (chain pref : ℕ) (sound : Sound s) where
  abbrev gone : Row → Bool
  gone = in_table hook chain pref

  abbrev left : List Row
  left = filter (λ x. not (gone x)) s.rows

  rows_stay : (mask : ℕ) (b c : Bool) → list_any (of_mask mask) s.rows ≡ b → list_any (of_mask mask) left ≡ c → (IsGone s (taken_out s gone) mask → ⊥) → Each (OtherMask hook chain pref mask) s.rows
  rows_stay mask false c stood stands spare =
      each_weaker (λ x. of_mask mask x ≡ false) (OtherMask hook chain pref mask) (λ x none is. none) s.rows (none_any (of_mask mask) s.rows stood)
  rows_stay mask true false stood stands spare = absurd (spare (no_filters mask left (none_any (of_mask mask) left stands), stood))
  rows_stay mask true true stood stands spare = other_masks hook chain pref mask s.rows sound.together stands

  mask_stays : (mask : ℕ) → (IsGone s (taken_out s gone) mask → ⊥) → KeepsMask mask s (taken_out s gone)
  mask_stays mask spare =
      let same = spared (of_mask mask) gone s.rows (rows_stay mask (list_any (of_mask mask) s.rows) (list_any (of_mask mask) left) refl refl spare) in
      record { words = words_same mask left s.rows same; filters = filters_same mask left s.rows same }

  other_tables : (other : Hook) → other ≢ hook → Each (λ x. gone x ≡ true → in_hook other x ≡ false) s.rows
  other_tables other differs =
      each_of (λ x. gone x ≡ true → in_hook other x ≡ false) (λ x is. not_on other x (λ e. differs (e ∙ (row_in_table hook chain pref x is).0))) s.rows

  table_taken_out : ChangesHook hook (IsGone s (taken_out s gone)) s (taken_out s gone)
  table_taken_out = record { heads = λ other differs. ap tables_of (spared (in_hook other) gone s.rows (other_tables other differs)); others = mask_stays }

pub table_deleted : (s t : State) (hook : Hook) (protocol : Option Proto) (chain pref : ℕ) (done : Done) → Sound s → filter_del s hook protocol chain pref None ≡ Ok (t, done) →
    ChangesHook hook (IsGone s t) s t
table_deleted s t hook protocol chain pref done sound e =
    let refused : Option Refusal = or_else (no_hook s) (or_else (protocol_clash_if s hook chain pref protocol) (no_such_table s hook chain pref)) in
    let step = not_unless refused (Ok (taken_out s (in_table hook chain pref), dones.TableGone)) (t, done) e in
    subst (λ u. ChangesHook hook (IsGone s u) s u) (same_step (taken_out s (in_table hook chain pref)) t dones.TableGone done step.1).0 (table_taken_out s hook chain pref sound)
