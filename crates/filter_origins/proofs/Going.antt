-- Filters that go, in states that differ in the order of rows alone.
use Rattle.std.proofs.Common.{◌≡◌, ◌∙◌, inl, inr, ℕ, Bool, ◌&&◌, List, Option, Some, None, sym, ap, refl}
use Rattle.std.specs.List.{list_any}
use Rattle.std.specs.Option.{unwrap_or}
use Rattle.tc_base.specs.declared.hook.Hook.{Hook}
use Rattle.filter_state.specs.declared.edit.Edit.{Edit}
use Rattle.filter_state.specs.declared.edit.Edit.TheVariants as edits
use Rattle.filter_state.specs.States.{Row, State}
use Rattle.filter_state.specs.Sound.{Sound}
use Rattle.filter_state.specs.Order.{SameRows, none, keep, exchange, joined, SameState}
use Rattle.filter_state.specs.Tables.{in_table, has_handle, filter_row}
use Rattle.state_laws.proofs.OfOrder.Same.{any_same, filter_same}
use Rattle.state_laws.proofs.OfOrder.First.{row_same}
use Rattle.state_past_laws.specs.OfChanges.Among.{Has, listed}
use Rattle.state_past_laws.specs.OfChanges.Going.{rows_going}
use Rattle.state_past_laws.proofs.OfChanges.Among.{first_has, filter_has}

has_same : {xs ys : List Row} → SameRows xs ys → (x : Row) → Has x xs → Has x ys
has_same none x has = has
has_same (keep same) x (inl is) = inl is
has_same (keep same) x (inr has) = inr (has_same same x has)
has_same (exchange other) x (inl is) = inr (inl is)
has_same (exchange other) x (inr (inl is)) = inl is
has_same (exchange other) x (inr (inr has)) = inr (inr has)
has_same (joined one two) x has = has_same two x (has_same one x has)

listed_there : (hook : Hook) (chain pref handle : ℕ) (rows : List Row) (x : Row) (o : Option Row) → filter_row hook chain pref handle rows ≡ o → Has x (listed o) → Has x rows
listed_there hook chain pref handle rows x None is has = absurd has
listed_there hook chain pref handle rows x (Some y) is (inl same) = (first_has (λ row. in_table hook chain pref row && has_handle handle row) rows x (is ∙ ap (λ (z : Row). Some z) same)).0
listed_there hook chain pref handle rows x (Some y) is (inr absent) = absurd absent

going_there : (s : State) (edit : Edit) (x : Row) → Has x (rows_going s edit) → Has x s.rows
going_there s edits.HookAdd x has = absurd has
going_there s edits.HookDel x has = absurd has
going_there s (edits.FilterAdd line) x has = absurd has
going_there s (edits.FilterReplace line) x has = listed_there line.hook line.chain (unwrap_or line.pref 0) (unwrap_or line.handle 0) s.rows x (filter_row line.hook line.chain (unwrap_or line.pref 0) (unwrap_or line.handle 0) s.rows) refl has
going_there s (edits.FilterDel hook protocol chain pref (Some handle)) x has = listed_there hook chain pref handle s.rows x (filter_row hook chain pref handle s.rows) refl has
going_there s (edits.FilterDel hook protocol chain pref None) x has = (filter_has (in_table hook chain pref) s.rows x has).0
going_there s (edits.ActionAdd line) x has = absurd has
going_there s (edits.ActionChange line) x has = absurd has
going_there s (edits.ActionDel kind index) x has = absurd has

pub gone_there : (s t : State) (edit : Edit) → SameState s t → (x : Row) → Has x (rows_going s edit) → Has x t.rows
gone_there s t edit same x has = has_same same.rows x (going_there s edit x has)

-- the same go, by any test
pub same_going : (s t : State) (edit : Edit) → Sound s → SameState s t → (test : Row → Bool) → list_any test (rows_going t edit) ≡ list_any test (rows_going s edit)
same_going s t edits.HookAdd sound same test = refl
same_going s t edits.HookDel sound same test = refl
same_going s t (edits.FilterAdd line) sound same test = refl
same_going s t (edits.FilterReplace line) sound same test =
    ap (λ (o : Option Row). list_any test (listed o)) (sym (row_same line.hook line.chain (unwrap_or line.pref 0) (unwrap_or line.handle 0) same.rows sound.together))
same_going s t (edits.FilterDel hook protocol chain pref (Some handle)) sound same test = ap (λ (o : Option Row). list_any test (listed o)) (sym (row_same hook chain pref handle same.rows sound.together))
same_going s t (edits.FilterDel hook protocol chain pref None) sound same test = sym (any_same test (filter_same (in_table hook chain pref) same.rows))
same_going s t (edits.ActionAdd line) sound same test = refl
same_going s t (edits.ActionChange line) sound same test = refl
same_going s t (edits.ActionDel kind index) sound same test = refl
