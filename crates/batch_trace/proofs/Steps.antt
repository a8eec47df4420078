-- Steps of a walk at one point, by answers that agree there.
use Rattle.std.proofs.Common.{◌≡◌, ◌∙◌, ℕ, zero, suc, List, ◌∷◌, Option, Some, None, refl, ap}
use Rattle.walk_rules.specs.Questions.{Question, Answer}
use Rattle.walk_rules.specs.Steps.{Standing, question_of, after}
use Rattle.point_walks.specs.Over.{Answering, answered_at}
use Rattle.trace_lines.specs.Steps.{Step, step_by, steps_of}

module _ (one other : Answering) (point : ℕ) (agree : (question : Question) → one point question ≡ other point question) where
  same_answer : (o : Option Question) → answered_at one point o ≡ answered_at other point o
  same_answer None = refl
  same_answer (Some question) = agree question

  same_rest : (st : Standing) (a : Option Answer) (first second : Standing → List Step) → ((next : Standing) → first next ≡ second next) → step_by st point a first ≡ step_by st point a second
  same_rest st None first second rest = refl
  same_rest st (Some answer) first second rest = ap (λ (steps : List Step). record { before = st; answer = answer; point = point } ∷ steps) (rest (after st answer))

  pub same_steps : (more : ℕ) (st : Standing) → steps_of one (λ visit. point) more st ≡ steps_of other (λ visit. point) more st
  unfolding steps_of
  same_steps zero st = refl
  same_steps (suc more) st =
      ap (λ (a : Option Answer). step_by st point a (steps_of one (λ visit. point) more)) (same_answer (question_of st))
      ∙ same_rest st (answered_at other point (question_of st)) (steps_of one (λ visit. point) more) (steps_of other (λ visit. point) more) (λ next. same_steps more next)
