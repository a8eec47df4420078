-- What commits tell of a mask or an action whose name a reader was told (this project's own). `h` is the
-- commits that the reader has seen, b is how many there were as the reader went inside, so that what stood
-- later may still be read.
use Rattle.std.specs.Prelude.{ℕ, ◌≤◌, List, length, take}
use Rattle.store_history.specs.declared.history.Commit.{Commit}
use Rattle.filter_state.specs.declared.edit.Edit.{Edit}
use Rattle.mask_table.specs.Told.{edits_by}
use Rattle.hook_law.specs.Meaning.{now_of, IsLive}
use Rattle.hook_law.specs.Standing.{IsSlotOf}
use Rattle.hook_meaning.specs.Stated.{hook_meaning}
use Rattle.hook_meaning.specs.Blocks.{hook_codec}
use Rattle.hook_meaning.specs.Told.{stands_at}

-- the mask stood at the slot after some number of the commits, which carry as many edits as the point says,
-- or more
pub record MaskStood (h : List (Commit Edit)) (b point slot serial : ℕ) : Type 0 where
  pub at : ℕ
  pub late : b ≤ at
  pub made : at ≤ length h
  pub there : stands_at (take at h) slot serial
  pub reached : point ≤ edits_by h at

-- the action was live then, and the slot is the one to which the commits had put it
pub record ActionLived (h : List (Commit Edit)) (b point slot serial : ℕ) : Type 0 where
  pub at : ℕ
  pub late : b ≤ at
  pub made : at ≤ length h
  pub there : IsSlotOf hook_codec (take at h) serial slot
  pub live : IsLive hook_meaning (now_of hook_meaning (take at h)) serial
  pub reached : point ≤ edits_by h at
