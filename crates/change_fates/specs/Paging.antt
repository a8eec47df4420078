-- A text that is written page by page (this project's own).
use Rattle.std.specs.Prelude.{◌≡◌, ℕ, List, ◌++◌, Option}
use Rattle.tc_base.specs.Outside.{Appended}

-- OF A TEXT A FRONT IS WRITTEN, since the sink had told that; what comes next of it stands on the page, and the
-- rest is left
pub record IsOnPage (first now : Option (List ℕ)) (whole page rest : List ℕ) : Type 0 where
  pub gone : List ℕ
  pub wrote : Appended first now gone
  pub whole_is : whole ≡ gone ++ (page ++ rest)
