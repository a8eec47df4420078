-- What `remove` owes at each of its steps, for a removal that is ready.
use Rattle.std.proofs.Common.{◌≡◌, ℕ, ◌<◌, ◌≤◌, List, length, Some, sym, subst}
use Rattle.filter_state.specs.declared.refusal.Done.TheVariants as dones
use Rattle.tc_base.specs.declared.hook.Hook.{Hook}
use Rattle.filter_state.specs.Tables.{in_table}
use Rattle.filter_index.specs.declared.filter.Filter.{Filter}
use Rattle.filter_tables.specs.Plain.{PlainMask, PlainTable}
use Rattle.filter_tables.specs.Places.{item_at, without_at}
use Rattle.filter_tables.specs.Changes.{removed}
use Rattle.filter_tables.specs.Rows.{tables_on, on_hook}
use Rattle.action_plan.specs.Bound.{AreBound}
use Rattle.hook_lists.specs.declared.kept.Kept.{Kept}
use Rattle.hook_lists.specs.States.{both_of, state_of, AreKept}
use Rattle.hook_lists.specs.Done.{IsDone}
use Rattle.filter_lists.specs.declared.removing.removal.Removal.{Removal}
use Rattle.filter_lists.specs.declared.removing.removal.Removal.TheVariants as removals
use Rattle.filter_lists.specs.OfRemoving.Leaving.{filters_in, serials_in, HasTables, HaveLeft}
use Rattle.filter_lists.specs.OfRemoving.Removals.{state_after, answer_of, IsReady}
use Rattle.filter_lists.proofs.OfRemoving.Leaves.{Leaves, leaves_some, leaves_bound, leaves_done}
use Rattle.filter_lists.proofs.OfRemoving.OneTaken.{IsTaken, one_row, filter_leaves}
use Rattle.filter_lists.proofs.OfRemoving.TableOut.{table_leaves, item_within}

-- ---- one filter
pub record OneStep (kept mid : Kept) (removal : Removal) (f : Filter) : Type 0 where
  pub hook : Hook
  pub chain : ℕ
  pub pref : ℕ
  pub handle : ℕ
  pub table : ℕ
  pub mask : ℕ
  pub is : removal ≡ removals.OneFilter hook chain pref handle table mask
  pub taken : IsTaken kept hook table mask handle f
  pub has : HasTables (on_hook hook (removed table mask handle) (both_of kept)) kept mid

one_leaves : (kept mid : Kept) (removal : Removal) (f : Filter) → AreKept kept → IsReady kept removal → (one : OneStep kept mid removal f) →
    Leaves kept (on_hook one.hook (removed one.table one.mask one.handle) (both_of kept)) (one_row one.hook one.chain one.pref one.handle) f.actions 1
one_leaves kept mid removal f are ready one =
    filter_leaves kept one.hook one.chain one.pref one.handle one.table one.mask f are (subst (IsReady kept) one.is ready) one.taken

pub one_some : (kept mid : Kept) (removal : Removal) (f : Filter) → AreKept kept → IsReady kept removal → OneStep kept mid removal f → 1 ≤ mid.filters
one_some kept mid removal f are ready one =
    leaves_some kept mid (on_hook one.hook (removed one.table one.mask one.handle) (both_of kept)) (one_row one.hook one.chain one.pref one.handle) f.actions 1 are one.has
    (one_leaves kept mid removal f are ready one)

pub one_bound : (kept mid : Kept) (removal : Removal) (f : Filter) → AreKept kept → IsReady kept removal → OneStep kept mid removal f → AreBound f.actions mid.actions.entries
one_bound kept mid removal f are ready one =
    leaves_bound kept mid (on_hook one.hook (removed one.table one.mask one.handle) (both_of kept)) (one_row one.hook one.chain one.pref one.handle) f.actions 1 are one.has
    (one_leaves kept mid removal f are ready one)

pub one_done : (kept mid new : Kept) (removal : Removal) (f : Filter) → AreKept kept → IsReady kept removal → OneStep kept mid removal f → HaveLeft f.actions 1 mid new →
    IsDone new dones.FilterGone (state_after (state_of kept) removal) (answer_of removal)
one_done kept mid new removal f are ready one left =
    subst (λ r. IsDone new dones.FilterGone (state_after (state_of kept) r) (answer_of r)) (sym one.is)
    (leaves_done kept mid new (on_hook one.hook (removed one.table one.mask one.handle) (both_of kept)) (one_row one.hook one.chain one.pref one.handle) f.actions 1 dones.FilterGone are one.has
    (one_leaves kept mid removal f are ready one) left)

-- ---- a whole table
pub record TableStep (kept mid : Kept) (removal : Removal) (masks : List PlainMask) : Type 0 where
  pub hook : Hook
  pub chain : ℕ
  pub pref : ℕ
  pub place : ℕ
  pub table : PlainTable
  pub is : removal ≡ removals.WholeTable hook chain pref place
  pub there : item_at (tables_on hook (both_of kept)) place ≡ Some table
  pub its_masks : masks ≡ table.masks
  pub has : HasTables (on_hook hook (without_at place) (both_of kept)) kept mid

pub place_ready : (kept : Kept) (removal : Removal) (hook : Hook) (chain pref place : ℕ) → removal ≡ removals.WholeTable hook chain pref place → IsReady kept removal →
    place < length (tables_on hook (both_of kept))
place_ready kept removal hook chain pref place is ready =
    let at = subst (IsReady kept) is ready in
    item_within (tables_on hook (both_of kept)) place at.0 at.1

all_leave : (kept mid : Kept) (removal : Removal) (masks : List PlainMask) → AreKept kept → IsReady kept removal → (whole : TableStep kept mid removal masks) →
    Leaves kept (on_hook whole.hook (without_at whole.place) (both_of kept)) (in_table whole.hook whole.chain whole.pref) (serials_in (filters_in masks)) (length (filters_in masks))
all_leave kept mid removal masks are ready whole =
    subst (λ ms. Leaves kept (on_hook whole.hook (without_at whole.place) (both_of kept)) (in_table whole.hook whole.chain whole.pref) (serials_in (filters_in ms)) (length (filters_in ms)))
    (sym whole.its_masks) (table_leaves kept whole.hook whole.chain whole.pref whole.place whole.table are (subst (IsReady kept) whole.is ready) whole.there)

pub all_some : (kept mid : Kept) (removal : Removal) (masks : List PlainMask) → AreKept kept → IsReady kept removal → TableStep kept mid removal masks →
    length (filters_in masks) ≤ mid.filters
all_some kept mid removal masks are ready whole =
    leaves_some kept mid (on_hook whole.hook (without_at whole.place) (both_of kept)) (in_table whole.hook whole.chain whole.pref) (serials_in (filters_in masks)) (length (filters_in masks)) are
    whole.has (all_leave kept mid removal masks are ready whole)

pub all_bound : (kept mid : Kept) (removal : Removal) (masks : List PlainMask) → AreKept kept → IsReady kept removal → TableStep kept mid removal masks →
    AreBound (serials_in (filters_in masks)) mid.actions.entries
all_bound kept mid removal masks are ready whole =
    leaves_bound kept mid (on_hook whole.hook (without_at whole.place) (both_of kept)) (in_table whole.hook whole.chain whole.pref) (serials_in (filters_in masks)) (length (filters_in masks)) are
    whole.has (all_leave kept mid removal masks are ready whole)

pub all_done : (kept mid new : Kept) (removal : Removal) (masks : List PlainMask) → AreKept kept → IsReady kept removal → TableStep kept mid removal masks →
    HaveLeft (serials_in (filters_in masks)) (length (filters_in masks)) mid new → IsDone new dones.TableGone (state_after (state_of kept) removal) (answer_of removal)
all_done kept mid new removal masks are ready whole left =
    subst (λ r. IsDone new dones.TableGone (state_after (state_of kept) r) (answer_of r)) (sym whole.is)
    (leaves_done kept mid new (on_hook whole.hook (without_at whole.place) (both_of kept)) (in_table whole.hook whole.chain whole.pref) (serials_in (filters_in masks)) (length (filters_in masks))
    dones.TableGone are whole.has (all_leave kept mid removal masks are ready whole) left)
