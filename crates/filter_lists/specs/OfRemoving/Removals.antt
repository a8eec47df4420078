-- What a removal comes to, and when it can be done.
use Rattle.std.specs.Prelude.{◌≡◌, ◌&&◌, Some, Result, Ok, Err}
use Rattle.filter_state.specs.declared.refusal.Done.{Done}
use Rattle.filter_state.specs.declared.refusal.Done.TheVariants as dones
use Rattle.filter_state.specs.declared.refusal.Refusal.{Refusal}
use Rattle.filter_state.specs.States.{State}
use Rattle.filter_state.specs.Tables.{in_table, has_handle}
use Rattle.filter_state.specs.Steps.{Stepped, taken_out}
use Rattle.filter_tables.specs.Plain.{PlainTable}
use Rattle.filter_tables.specs.Places.{item_at, place_where}
use Rattle.filter_tables.specs.Changes.{has_handle_in}
use Rattle.filter_tables.specs.Rows.{tables_on}
use Rattle.hook_lists.specs.declared.kept.Kept.{Kept}
use Rattle.hook_lists.specs.States.{both_of, state_of}
use Rattle.filter_lists.specs.declared.removing.removal.Removal.{Removal}
use Rattle.filter_lists.specs.declared.removing.removal.Removal.TheVariants as removals

-- the state that a removal leads to, and its answer
abbrev pub state_after : State → Removal → State
state_after s (removals.OneFilter hook chain pref handle table mask) =
    taken_out s (λ row. in_table hook chain pref row && has_handle handle row)
state_after s (removals.WholeTable hook chain pref table) = taken_out s (in_table hook chain pref)

abbrev pub answer_of : Removal → Done
answer_of (removals.OneFilter hook chain pref handle table mask) = dones.FilterGone
answer_of (removals.WholeTable hook chain pref table) = dones.TableGone

-- the table of that chain and pref stands at the place, and the filter of that handle in its mask at the
-- place
abbrev pub IsReady : Kept → Removal → Type 0
IsReady kept (removals.OneFilter hook chain pref handle table mask) =
    (t : PlainTable) × (item_at (tables_on hook (both_of kept)) table ≡ Some t) × (t.chain ≡ chain)
    × (t.pref ≡ pref) × (place_where (has_handle_in handle) t.masks ≡ Some mask)
IsReady kept (removals.WholeTable hook chain pref table) =
    (t : PlainTable) × (item_at (tables_on hook (both_of kept)) table ≡ Some t) × (t.chain ≡ chain)
    × (t.pref ≡ pref)

-- a removal is planned where the step accepts the edit, and leads where the step does; and it is refused for
-- the step's reason
abbrev pub IsPlanned : Kept → Result Removal Refusal → Stepped → Type 0
IsPlanned kept (Ok removal) (Ok (next, said)) = IsReady kept removal
    × (state_after (state_of kept) removal ≡ next) × (answer_of removal ≡ said)
IsPlanned kept (Err refusal) (Err said) = refusal ≡ said
IsPlanned kept planned stepped = ⊥
