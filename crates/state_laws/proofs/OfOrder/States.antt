-- States that differ in the order of their rows alone.
use Rattle.std.proofs.Common.{◌≡◌, List, refl, sym, ◌∙◌, ap}
use Rattle.filter_state.specs.States.{Row, State}
use Rattle.filter_state.specs.Order.{SameRows, joined, SameState}
use Rattle.state_laws.proofs.OfOrder.Same.{same_refl, same_sym}

pub same_state_refl : (s : State) → SameState s s
same_state_refl s = record { hooked = refl; rows = same_refl s.rows; actions = refl; tables_made = refl; masks_made = refl; actions_made = refl }

pub same_state_sym : {s t : State} → SameState s t → SameState t s
same_state_sym same = record {
  hooked = sym same.hooked;
  rows = same_sym same.rows;
  actions = sym same.actions;
  tables_made = sym same.tables_made;
  masks_made = sym same.masks_made;
  actions_made = sym same.actions_made;
}

pub same_state_trans : {s t u : State} → SameState s t → SameState t u → SameState s u
same_state_trans same more = record {
  hooked = same.hooked ∙ more.hooked;
  rows = joined same.rows more.rows;
  actions = same.actions ∙ more.actions;
  tables_made = same.tables_made ∙ more.tables_made;
  masks_made = same.masks_made ∙ more.masks_made;
  actions_made = same.actions_made ∙ more.actions_made;
}

-- ---- one state, with two lists of rows
abbrev pub with_rows : State → List Row → State
with_rows s rows = record s { rows = rows }

pub rows_only : (s : State) (rows : List Row) → SameRows s.rows rows → SameState s (with_rows s rows)
rows_only s rows same = record { hooked = refl; rows = same; actions = refl; tables_made = refl; masks_made = refl; actions_made = refl }

-- the other state is the first, with its own rows
pub is_with_rows : (s t : State) → SameState s t → with_rows s t.rows ≡ t
is_with_rows s t same =
    ap (λ h. record t { hooked = h; actions = s.actions; tables_made = s.tables_made; masks_made = s.masks_made; actions_made = s.actions_made }) same.hooked
    ∙ ap (λ a. record t { actions = a; tables_made = s.tables_made; masks_made = s.masks_made; actions_made = s.actions_made }) same.actions
    ∙ ap (λ n. record t { tables_made = n; masks_made = s.masks_made; actions_made = s.actions_made }) same.tables_made
    ∙ ap (λ n. record t { masks_made = n; actions_made = s.actions_made }) same.masks_made
    ∙ ap (λ n. record t { actions_made = n }) same.actions_made
