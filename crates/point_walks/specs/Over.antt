-- A walk at given points, as a function of what is answered there (this project's own).
use Rattle.std.specs.Prelude.{ℕ, List, [], ◌∷◌, Option, Some, None}
use Rattle.std.specs.Option.{option_and_then}
use Rattle.walk_rules.specs.Questions.{Question, Answer}
use Rattle.walk_rules.specs.Steps.{Standing, question_of, after}

-- who answers: a question at a point, or nothing
abbrev pub Answering : Type 0
Answering = ℕ → Question → Option Answer

abbrev pub answered_at : Answering → ℕ → Option Question → Option Answer
answered_at answers point None = None
answered_at answers point (Some question) = answers point question

-- where the walk stands after one visit at a point
abbrev pub moved_by : Standing → Option Answer → Option Standing
moved_by st None = None
moved_by st (Some answer) = Some (after st answer)

abbrev pub one_visit : Answering → ℕ → Standing → Option Standing
one_visit answers point st = moved_by st (answered_at answers point (question_of st))

-- WHERE IT STANDS after a visit at each of these points; nowhere, where one of them isn't answered, or the walk
-- asks for nothing more
abbrev pub stands_after : Answering → Standing → List ℕ → Option Standing
stands_after answers st [] = Some st
stands_after answers st (point ∷ points) =
    option_and_then (λ next. stands_after answers next points) (one_visit answers point st)
