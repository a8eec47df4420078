-- One visit at a point, and where its answer changes next (this project's own).
use Rattle.std.specs.Prelude.{◌≡◌, ◌⊎◌, ℕ, min, Option, Some, None}
use Rattle.walk_rules.specs.Questions.{Question, Answer}
use Rattle.point_walks.specs.Over.{Answering}
use Rattle.state_past.specs.NextChange.{IsNextChange}

-- the earlier of two points, of which either may be none
abbrev pub sooner : Option ℕ → Option ℕ → Option ℕ
sooner None other = other
sooner (Some one) None = Some one
sooner (Some one) (Some other) = Some (min one other)

-- that is the answer, or there is none; and what was the next change so far is the sooner of that and this
-- question's
pub record IsVisitAt (answers : Answering) (question : Question) (answer : Answer) (point : ℕ)
    (next now : Option ℕ) : Type 0 where
  pub is : (answers point question ≡ Some answer) ⊎ (answers point question ≡ None)
  pub change : Option ℕ
  pub changes : IsNextChange (λ at. answers at question) point change
  pub goes : now ≡ sooner next change
