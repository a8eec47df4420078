-- What the steps of a removal make of the lists (this project's own).
use Rattle.std.specs.Prelude.{◌≡◌, ℕ, ◌+◌, List, [], ◌∷◌, ◌++◌}
use Rattle.filter_state.specs.Actions.{all_unbound}
use Rattle.filter_index.specs.declared.filter.Filter.{Filter}
use Rattle.filter_tables.specs.Plain.{PlainMask}
use Rattle.filter_tables.specs.Rows.{BothHooks}
use Rattle.action_plan.specs.Entries.{actions_of}
use Rattle.hook_lists.specs.declared.kept.Kept.{Kept}
use Rattle.hook_lists.specs.States.{both_of}

-- the filters of some masks, in order
abbrev pub filters_in : List PlainMask → List Filter
filters_in [] = []
filters_in (m ∷ masks) = m.filters ++ filters_in masks

-- the serials that some filters name, in order
abbrev pub serials_in : List Filter → List ℕ
serials_in [] = []
serials_in (f ∷ filters) = f.actions ++ serials_in filters

-- the tables are those, and all else is as before
pub record HasTables (both : BothHooks) (old new : Kept) : Type 0 where
  pub tables : both_of new ≡ both
  pub hooked : new.hooked ≡ old.hooked
  pub actions : new.actions ≡ old.actions
  pub tables_made : new.tables_made ≡ old.tables_made
  pub masks_made : new.masks_made ≡ old.masks_made
  pub filters : new.filters ≡ old.filters

-- the places of so many filters were let go, and all else is as before
pub record HaveLeft (serials : List ℕ) (count : ℕ) (old new : Kept) : Type 0 where
  pub actions : actions_of new.actions.entries ≡ all_unbound serials (actions_of old.actions.entries)
  pub made : new.actions.made ≡ old.actions.made
  pub filters : new.filters + count ≡ old.filters
  pub tables : both_of new ≡ both_of old
  pub hooked : new.hooked ≡ old.hooked
  pub tables_made : new.tables_made ≡ old.tables_made
  pub masks_made : new.masks_made ≡ old.masks_made
