-- What the commits of a hook's store keep (this project's own). The base is b.
use Rattle.std.specs.Prelude.{◌≡◌, ◌≤◌, ℕ, List, length}
use Rattle.store_history.specs.declared.history.Commit.{Commit}
use Rattle.store_history.specs.History.{root_of}
use Rattle.filter_state.specs.declared.edit.Edit.{Edit}
use Rattle.root_word_laws.specs.Words.{StampsRise}
use Rattle.hook_law.specs.Meaning.{point_of}
use Rattle.hook_law.specs.Keeping.{Keeps}
use Rattle.hook_meaning.specs.Stated.{hook_meaning}
use Rattle.hook_meaning.specs.Blocks.{hook_codec}

-- the law of a hook, at this project's states and blocks; and one word of a root names one chain
pub record KeepsHook (h : List (Commit Edit)) (b : ℕ) : Type 0 where
  pub law : Keeps hook_meaning hook_codec h b
  pub stamps : StampsRise h

-- after so many edits: the law is kept, and no root has a later stamp
pub record IsKeptAt (h : List (Commit Edit)) (b point : ℕ) : Type 0 where
  pub low : b ≤ length h
  pub keeps : KeepsHook h b
  pub point_is : point ≡ point_of h
  pub early : (r : ℕ) → (root_of h r).stamp ≤ point
