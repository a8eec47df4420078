-- The steps of walks over the states of points.
use Rattle.std.proofs.Common.{◌≡◌, ◌∙◌, ℕ, zero, suc, ◌+◌, ◌≤◌, List, [], ◌∷◌, ◌++◌, length, get_or, Option, Some, None, refl, sym, ap, subst, arith}
use Rattle.std.proofs.lemmas.List.{append_assoc, append-nil}
use Rattle.tc_base.specs.declared.hook.Hook.{Hook}
use Rattle.filter_state.specs.States.{State}
use Rattle.filter_state.specs.Sound.{Sound}
use Rattle.walk_rules.specs.declared.limits.TheConstants.{VISITS_MAX}
use Rattle.walk_rules.specs.Questions.{Question, Answer}
use Rattle.walk_rules.specs.Answers.{answer_of}
use Rattle.walk_rules.specs.Plain.{plain_walk}
use Rattle.walk_rules.specs.Steps.{Standing, begun, question_of, after}
use Rattle.walk_rules.specs.Walks.{Outcome, IsWalk, outcome_of, AnsweredBy}
use Rattle.walk_rules.specs.OfPoints.Points.{Visit, IsVisited}
use Rattle.walk_rules.proofs.Agreeing.{one_more, asks_or_ended, few_points}
use Rattle.walk_rules.proofs.Stilled.{leads_to_plain}
use Rattle.trace_lines.specs.Steps.{Step, steps_of}
use Rattle.point_walks.specs.Over.{Answering}
use Rattle.walk_trace.specs.Traces.{stands_behind}
use Rattle.walk_trace.specs.Visited.{AreVisits}
use Rattle.walk_trace.proofs.Steps.{first_step, no_step, none_over}

asks_no_more : (st : Standing) (outcome : Outcome) → outcome_of st ≡ Some outcome → question_of st ≡ None
asks_no_more st outcome ends = by_question (question_of st) refl
  where
    by_question : (o : Option Question) → question_of st ≡ o → o ≡ None
    by_question None is = refl
    by_question (Some question) is = absurd (asks_or_ended st question outcome is ends)

nothing_left : (answers : Answering) (points : ℕ → ℕ) (more : ℕ) (st : Standing) (outcome : Outcome) → outcome_of st ≡ Some outcome → steps_of answers points more st ≡ []
nothing_left answers points more st outcome ends = no_step answers points more st (none_over answers (points st.visits) st (asks_no_more st outcome ends))

-- ---- points by the number of visits before
abbrev pub AreFrom : (ℕ → ℕ) → ℕ → List ℕ → Type 0
AreFrom points visits [] = Unit {0}
AreFrom points visits (p ∷ ps) = (p ≡ points visits) × AreFrom points (visits + 1) ps

from_here : (points : ℕ → ℕ) (visits : ℕ) (ps : List ℕ) → ((k : ℕ) → get_or ps k 0 ≡ points (visits + k)) → AreFrom points visits ps
from_here points visits [] each = tt
from_here points visits (p ∷ ps) each =
    (each 0 ∙ ap points (omega arith), from_here points (visits + 1) ps (λ k. each (suc k) ∙ ap points (omega arith)))

pub from_all : (points : List ℕ) → AreFrom (λ visits. get_or points visits 0) 0 points
from_all points = from_here (λ visits. get_or points visits 0) 0 points (λ k. ap (λ (n : ℕ). get_or points n 0) (omega arith))

-- ---- a walk of visits
pub record IsTraced (before now : List Visit) (outcome : Outcome) (st : Standing) (steps : List Step) : Type 0 where
  pub visits : List Visit
  pub behind : now ≡ before ++ visits
  pub same : AreVisits steps visits
  pub ends : outcome_of (stands_behind st steps) ≡ Some outcome

traced_first : (before between now : List Visit) (outcome : Outcome) (st : Standing) (question : Question) (answer : Answer) (point : ℕ) (steps : List Step) → question_of st ≡ Some question
    → between ≡ before ++ (record { question = question; point = point } ∷ []) → IsTraced between now outcome (after st answer) steps
    → IsTraced before now outcome st (record { before = st; answer = answer; point = point } ∷ steps)
traced_first before between now outcome st question answer point steps asks is rest = record {
  visits = record { question = question; point = point } ∷ rest.visits;
  behind = rest.behind ∙ ap (λ (vs : List Visit). vs ++ rest.visits) is ∙ append_assoc before (record { question = question; point = point } ∷ []) rest.visits;
  same = (asks, refl, rest.same);
  ends = rest.ends;
}

pub walk_traced : (states : ℕ → State) (points : ℕ → ℕ) (ps : List ℕ) (more : ℕ) (before now : List Visit) (st : Standing) (outcome : Outcome) → AreFrom points st.visits ps → length ps ≤ more
    → IsWalk (IsVisited states) before st ps now outcome → IsTraced before now outcome st (steps_of (λ point. answer_of (states point)) points more st)
walk_traced states points [] more before now st outcome are few walk =
    subst (IsTraced before now outcome st) (sym (nothing_left (λ point. answer_of (states point)) points more st outcome walk.1))
    (record { visits = []; behind = walk.0 ∙ sym (append-nil before); same = tt; ends = walk.1 })
walk_traced states points (p ∷ ps) zero before now st outcome are few walk = absurd (omega (arith, few))
walk_traced states points (p ∷ ps) (suc more) before now st outcome are few walk =
    subst (IsTraced before now outcome st) (sym (first_step (λ point. answer_of (states point)) points more st p walk.0 walk.1 are.0 walk.3 walk.4.0))
    (traced_first before walk.2 now outcome st walk.0 walk.1 p (steps_of (λ point. answer_of (states point)) points more (after st walk.1)) walk.3 walk.4.1
    (walk_traced states points ps more walk.2 now (after st walk.1) outcome (subst (λ (n : ℕ). AreFrom points n ps) (sym (one_more st walk.1)) are.1) (omega (arith, few)) walk.5))

pub all_traced : (states : ℕ → State) (hook : Hook) (bytes points : List ℕ) (visits : List Visit) (outcome : Outcome) → IsWalk (IsVisited states) [] (begun hook bytes) points visits outcome
    → IsTraced [] visits outcome (begun hook bytes) (steps_of (λ point. answer_of (states point)) (λ visits. get_or points visits 0) VISITS_MAX (begun hook bytes))
all_traced states hook bytes points visits outcome walk =
    walk_traced states (λ visits. get_or points visits 0) points VISITS_MAX [] visits (begun hook bytes) outcome (from_all points) (few_points (IsVisited states) hook bytes points [] visits outcome walk) walk

-- ---- a walk over one state
pub plain_traced : (s : State) (points : ℕ → ℕ) (ps : List ℕ) (more : ℕ) (before now : Unit {0}) (st : Standing) (outcome : Outcome) → length ps ≤ more
    → IsWalk (AnsweredBy (λ _. s)) before st ps now outcome → outcome_of (stands_behind st (steps_of (λ _. answer_of s) points more st)) ≡ Some outcome
plain_traced s points [] more before now st outcome few walk =
    ap (λ (ss : List Step). outcome_of (stands_behind st ss)) (nothing_left (λ _. answer_of s) points more st outcome walk.1) ∙ walk.1
plain_traced s points (p ∷ ps) zero before now st outcome few walk = absurd (omega (arith, few))
plain_traced s points (p ∷ ps) (suc more) before now st outcome few walk =
    ap (λ (ss : List Step). outcome_of (stands_behind st ss)) (first_step (λ _. answer_of s) points more st (points st.visits) walk.0 walk.1 refl walk.3 walk.4)
    ∙ plain_traced s points ps more walk.2 now (after st walk.1) outcome (omega (arith, few)) walk.5

pub state_traced : (s : State) (points : ℕ → ℕ) (hook : Hook) (bytes : List ℕ) → Sound s
    → outcome_of (stands_behind (begun hook bytes) (steps_of (λ _. answer_of s) points VISITS_MAX (begun hook bytes))) ≡ Some (plain_walk s hook bytes)
state_traced s points hook bytes sound =
    let plain = leads_to_plain s sound hook bytes in
    plain_traced s points plain.0 VISITS_MAX tt tt (begun hook bytes) (plain_walk s hook bytes) (few_points (AnsweredBy (λ _. s)) hook bytes plain.0 tt tt (plain_walk s hook bytes) plain.1) plain.1
