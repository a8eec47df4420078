-- A text that is written page by page (this project's own).
use Rattle.std.specs.Prelude.{◌≡◌, ℕ, List, ◌++◌, Option}
use Rattle.tc_base.specs.Outside.{Appended}

-- of a text a front was appended, and the rest stands on the page
pub record IsPaged (old new : Option (List ℕ)) (text page : List ℕ) : Type 0 where
  pub front : List ℕ
  pub wrote : Appended old new front
  pub whole : front ++ page ≡ text
