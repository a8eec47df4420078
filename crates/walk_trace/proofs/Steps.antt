-- The first step of a walk, and those that follow it.
use Rattle.std.proofs.Common.{◌≡◌, ◌∙◌, ℕ, zero, suc, ◌+◌, ◌-◌, ◌<◌, [], ◌∷◌, Option, Some, None, refl, sym, ap, arith}
use Rattle.walk_rules.specs.declared.limits.TheConstants.{VISITS_MAX}
use Rattle.walk_rules.specs.Questions.{Question, Answer}
use Rattle.walk_rules.specs.Steps.{Standing, question_of, after}
use Rattle.point_walks.specs.Over.{Answering, answered_at}
use Rattle.trace_lines.specs.Steps.{step_by, steps_of}

pub first_step : (answers : Answering) (points : ℕ → ℕ) (more : ℕ) (st : Standing) (point : ℕ) (question : Question) (answer : Answer) → point ≡ points st.visits → question_of st ≡ Some question
    → answers point question ≡ Some answer → steps_of answers points (suc more) st ≡ record { before = st; answer = answer; point = point } ∷ steps_of answers points more (after st answer)
unfolding steps_of
first_step answers points more st point question answer at asks is =
    ap (λ (p : ℕ). step_by st p (answered_at answers p (question_of st)) (steps_of answers points more)) (sym at)
    ∙ ap (λ (o : Option Answer). step_by st point o (steps_of answers points more)) (ap (answered_at answers point) asks ∙ is)

pub no_step : (answers : Answering) (points : ℕ → ℕ) (more : ℕ) (st : Standing) → answered_at answers (points st.visits) (question_of st) ≡ None → steps_of answers points more st ≡ []
unfolding steps_of
no_step answers points zero st none = refl
no_step answers points (suc more) st none = ap (λ (o : Option Answer). step_by st (points st.visits) o (steps_of answers points more)) none

pub none_over : (answers : Answering) (point : ℕ) (st : Standing) → question_of st ≡ None → answered_at answers point (question_of st) ≡ None
none_over answers point st over = ap (answered_at answers point) over

one_left : (visits : ℕ) → visits < VISITS_MAX → VISITS_MAX - visits ≡ suc (VISITS_MAX - (visits + 1))
one_left visits less = omega (arith, less)

-- with so many visits made before
pub next_step : (answers : Answering) (points : ℕ → ℕ) (visits : ℕ) (st : Standing) (point : ℕ) (question : Question) (answer : Answer) → st.visits ≡ visits → visits < VISITS_MAX → point ≡ points visits
    → question_of st ≡ Some question → answers point question ≡ Some answer
    → steps_of answers points (VISITS_MAX - visits) st ≡ record { before = st; answer = answer; point = point } ∷ steps_of answers points (VISITS_MAX - (visits + 1)) (after st answer)
next_step answers points visits st point question answer count less at asks is =
    ap (λ (n : ℕ). steps_of answers points n st) (one_left visits less)
    ∙ first_step answers points (VISITS_MAX - (visits + 1)) st point question answer (at ∙ ap points (sym count)) asks is
