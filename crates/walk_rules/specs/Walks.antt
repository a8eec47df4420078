-- A walk, visit by visit (this project's own).
use Rattle.std.specs.Prelude.{◌≡◌, ℕ, ◌==◌, List, [], ◌∷◌, Option, Some, None, if◌then◌else◌}
use Rattle.tc_base.specs.declared.hook.Hook.{Hook}
use Rattle.frame_edit.specs.EditedFrame.{EditedFrame}
use Rattle.filter_state.specs.States.{State}
use Rattle.walk_rules.specs.declared.verdict.Verdict.{Verdict}
use Rattle.walk_rules.specs.declared.verdict.Verdict.TheVariants as verdicts
use Rattle.walk_rules.specs.Questions.{Question, Answer}
use Rattle.walk_rules.specs.Answers.{answer_of}
use Rattle.walk_rules.specs.declared.limits.TheConstants.{VISITS_MAX}
use Rattle.walk_rules.specs.Steps.{Execution, Place, ended, Standing, begun, question_of, after}

-- how a walk ended: the frame with its metadata, and what ran on it, in order
pub record Outcome : Type 0 where
  pub verdict : Verdict
  pub frame : EditedFrame
  pub executed : List Execution

abbrev pub outcome_with : Verdict → Standing → Outcome
outcome_with verdict st = record { verdict = verdict; frame = st.frame; executed = st.executed }

-- a walk that needs a further visit after the last that it may make ends with drop
abbrev pub outcome_at : Place → Standing → Option Outcome
outcome_at (ended verdict) st = Some (outcome_with verdict st)
outcome_at place st = if st.visits == VISITS_MAX then Some (outcome_with verdicts.Drop st) else None

-- the outcome of a walk that has ended
abbrev pub outcome_of : Standing → Option Outcome
outcome_of st = outcome_at st.place st

-- FROM THERE, A WALK makes one visit at each of these points and then ends so. Who answers may change with
-- each visit: `told` relates it before and after, by the question, the answer and the point.
abbrev pub IsWalk : {V : Type 0} → (V → Question → Answer → ℕ → V → Type 0) → V → Standing → List ℕ → V
    → Outcome → Type 0
IsWalk told before st [] now outcome = (now ≡ before) × (outcome_of st ≡ Some outcome)
IsWalk {V = V} told before st (point ∷ points) now outcome =
    (question : Question) × (answer : Answer) × (between : V)
    × (question_of st ≡ Some question) × told before question answer point between
    × IsWalk told between (after st answer) points now outcome

-- each visit is answered by the state of its point
abbrev pub AnsweredBy : (ℕ → State) → Unit {0} → Question → Answer → ℕ → Unit {0} → Type 0
AnsweredBy states before question answer point now = answer_of (states point) question ≡ Some answer

-- THE WALK of these bytes at a hook, over the states of the points
abbrev pub IsWalkOver : (ℕ → State) → Hook → List ℕ → List ℕ → Outcome → Type 0
IsWalkOver states hook bytes points outcome =
    IsWalk (AnsweredBy states) tt (begun hook bytes) points tt outcome
