-- The steps of a walk: each visit with where the walk stood before it (this project's own).
use Rattle.std.specs.Prelude.{ℕ, zero, suc, List, [], ◌∷◌, Option, Some, None}
use Rattle.walk_rules.specs.Questions.{Answer}
use Rattle.walk_rules.specs.Steps.{Standing, question_of, after}
use Rattle.point_walks.specs.Over.{Answering, answered_at}

pub record Step : Type 0 where
  pub before : Standing
  pub answer : Answer
  pub point : ℕ

abbrev pub step_by : Standing → ℕ → Option Answer → (Standing → List Step) → List Step
step_by st point None more = []
step_by st point (Some answer) more =
    record { before = st; answer = answer; point = point } ∷ more (after st answer)

-- THE STEPS OF A WALK from there, so many at most, each visit at the point that is given for it by the visits
-- before; they end with the walk, or before a visit that isn't answered
unfoldable pub steps_of : Answering → (ℕ → ℕ) → ℕ → Standing → List Step
steps_of answers points zero st = []
steps_of answers points (suc more) st =
    step_by st (points st.visits) (answered_at answers (points st.visits) (question_of st))
    (steps_of answers points more)
