-- Steps and the visits that they are of (this project's own).
use Rattle.std.specs.Prelude.{◌≡◌, List, [], ◌∷◌, Some}
use Rattle.walk_rules.specs.Steps.{question_of}
use Rattle.walk_rules.specs.OfPoints.Points.{Visit}
use Rattle.trace_lines.specs.Steps.{Step}

-- one step for each visit, in order, with its question and its point
abbrev pub AreVisits : List Step → List Visit → Type 0
AreVisits [] [] = Unit {0}
AreVisits [] (visit ∷ visits) = ⊥
AreVisits (step ∷ steps) [] = ⊥
AreVisits (step ∷ steps) (visit ∷ visits) = (question_of step.before ≡ Some visit.question)
    × (step.point ≡ visit.point) × AreVisits steps visits
