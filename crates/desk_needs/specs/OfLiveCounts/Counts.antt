-- How many filters, masks and rows of buckets there are after an edit (this project's own). `s` is the state
-- before the edit, and `t` the one after it.
use Rattle.std.specs.Prelude.{◌≡◌, ℕ, ◌+◌, ◌-◌, List, length, sum_by}
use Rattle.filter_state.specs.States.{State}
use Rattle.desk_needs.specs.Live.{masks_in, count_of, rows_of, rows_of_all}
use Rattle.desk_needs.specs.OfEditNeeds.Told.{laid_rows, laid_masks}

-- the rows of buckets of all masks
abbrev pub rows_in : State → ℕ
rows_in s = rows_of_all s (masks_in s)

-- as many of all as before
pub record StayAsMany (s t : State) : Type 0 where
  pub filters : length t.rows ≡ length s.rows
  pub masks : length (masks_in t) ≡ length (masks_in s)
  pub rows : rows_in t ≡ rows_in s

-- a filter comes into a mask that has so many
pub record FilterComes (s t : State) (count : ℕ) : Type 0 where
  pub filters : length t.rows ≡ length s.rows + 1
  pub masks : length (masks_in t) ≡ length (masks_in s)
  pub rows : rows_in t + laid_rows count ≡ rows_in s + laid_rows (count + 1)

-- a filter comes with a mask of its own
pub record MaskComes (s t : State) : Type 0 where
  pub filters : length t.rows ≡ length s.rows + 1
  pub masks : length (masks_in t) ≡ length (masks_in s) + 1
  pub rows : rows_in t ≡ rows_in s + laid_rows 1

-- a filter moves from a mask of so many to one that has so many others, or none yet
pub record FilterMoves (s t : State) (count others : ℕ) : Type 0 where
  pub filters : length t.rows ≡ length s.rows
  pub masks : length (masks_in t) + laid_masks count + laid_masks others
      ≡ length (masks_in s) + laid_masks (count - 1) + laid_masks (others + 1)
  pub rows : rows_in t + laid_rows count + laid_rows others
      ≡ rows_in s + laid_rows (count - 1) + laid_rows (others + 1)

-- a filter goes from a mask of so many, which stays
pub record FilterGoes (s t : State) (count : ℕ) : Type 0 where
  pub filters : length s.rows ≡ length t.rows + 1
  pub masks : length (masks_in t) ≡ length (masks_in s)
  pub rows : rows_in t + laid_rows count ≡ rows_in s + laid_rows (count - 1)

-- masks go, with all that they have
pub record MasksGo (s t : State) (gone : List ℕ) : Type 0 where
  pub filters : length s.rows ≡ length t.rows + sum_by (count_of s) gone
  pub masks : length (masks_in s) ≡ length (masks_in t) + length gone
  pub rows : rows_in s ≡ rows_in t + sum_by (rows_of s) gone

-- ---- actions
-- as many live ones as before, and none made
pub record ActionsStay (s t : State) : Type 0 where
  pub live : length t.actions ≡ length s.actions
  pub made : t.actions_made ≡ s.actions_made

-- one is made
pub record ActionComes (s t : State) : Type 0 where
  pub live : length t.actions ≡ length s.actions + 1
  pub made : t.actions_made ≡ s.actions_made + 1

-- one goes
pub record ActionGoes (s t : State) : Type 0 where
  pub live : length s.actions ≡ length t.actions + 1
  pub made : t.actions_made ≡ s.actions_made
