-- The walk whose visits are all made at one point (this project's own).
use Rattle.std.specs.Prelude.{◌≡◌, ℕ, zero, suc, List, Option, Some, None}
use Rattle.std.specs.Option.{option_and_then, option_map}
use Rattle.tc_base.specs.declared.hook.Hook.{Hook}
use Rattle.filter_state.specs.States.{State}
use Rattle.walk_rules.specs.declared.limits.TheConstants.{VISITS_MAX}
use Rattle.walk_rules.specs.Questions.{Question, heads_of, filter_of, params_of}
use Rattle.walk_rules.specs.Answers.{answer_of}
use Rattle.walk_rules.specs.Steps.{Standing, begun, question_of, after}
use Rattle.walk_rules.specs.Walks.{outcome_of}
use Rattle.walk_rules.specs.Plain.{plain_walk}
use Rattle.point_walks.specs.Over.{Answering}
use Rattle.walk_fate_laws.specs.Fates.{Fate, fate_of}

abbrev pub stays_by : Standing → Option Question → (Question → Option Standing) → Option Standing
stays_by st None more = Some st
stays_by st (Some question) more = more question

-- where it ends, with so many visits at most; nowhere, where one isn't answered
unfoldable pub stays_from : Answering → ℕ → ℕ → Standing → Option Standing
stays_from answers point zero st = stays_by st (question_of st) (λ question. None)
stays_from answers point (suc visits) st = stays_by st (question_of st) (λ question. option_and_then
    (λ answer. stays_from answers point visits (after st answer)) (answers point question))

-- WHERE A WALK ENDS that meets that point alone
abbrev pub stay_of : Answering → Hook → List ℕ → ℕ → Option Standing
stay_of answers hook bytes point = stays_from answers point VISITS_MAX (begun hook bytes)

abbrev pub fate_at_end : Standing → Option Fate
fate_at_end end = option_map fate_of (outcome_of end)

-- its fate
abbrev pub fate_there : Answering → Hook → List ℕ → ℕ → Option Fate
fate_there answers hook bytes point = option_and_then fate_at_end (stay_of answers hook bytes point)

-- each of its visits is answered
abbrev pub IsAnsweredAt : Answering → Hook → List ℕ → ℕ → Type 0
IsAnsweredAt answers hook bytes point = (fate : Fate) × (fate_there answers hook bytes point ≡ Some fate)

-- a point is answered as a state answers, whatever a walk at that hook can ask
pub record IsAnsweredAs (answers : Answering) (point : ℕ) (hook : Hook) (s : State) : Type 0 where
  pub tables : answers point (heads_of hook) ≡ answer_of s (heads_of hook)
  pub filters : (table mask : ℕ) (values : List ℕ)
      → answers point (filter_of table mask values) ≡ answer_of s (filter_of table mask values)
  pub actions : (serial : ℕ) → answers point (params_of serial) ≡ answer_of s (params_of serial)

-- over states it is the fate of the plain walk
abbrev pub plain_fate : (ℕ → State) → Hook → List ℕ → ℕ → Fate
plain_fate states hook bytes point = fate_of (plain_walk (states point) hook bytes)
