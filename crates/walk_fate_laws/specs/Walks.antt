-- The walk of a packet as a game, and its ways (this project's own).
use Rattle.std.specs.Prelude.{ℕ, ◌==◌, ◌&&◌, nat_eq, Bool, true, false, List}
use lib.Pointwise.{pointwise}
use Rattle.std.specs.Option.{option_eq}
use Rattle.tc_base.specs.declared.hook.Hook.{Hook}
use Rattle.act_kinds.specs.declared.params.Control.{Control}
use Rattle.act_kinds.specs.declared.params.Control.TheVariants as controls
use Rattle.act_kinds.specs.declared.params.VlanOp.{VlanOp}
use Rattle.act_kinds.specs.declared.params.VlanOp.TheVariants as vlans
use Rattle.act_kinds.specs.declared.params.Params.{Params}
use Rattle.act_kinds.specs.declared.params.Params.TheVariants as params
use Rattle.filter_state.specs.States.{State}
use Rattle.filter_state.specs.Tables.{protocol_eq}
use Rattle.walk_rules.specs.declared.limits.TheConstants.{VISITS_MAX}
use Rattle.walk_rules.specs.Questions.{Head, Question, heads_of, Answer, told_heads}
use Rattle.walk_rules.specs.Questions.{told_no_filter, told_actions, told_params}
use Rattle.walk_rules.specs.Answers.{answer_of}
use Rattle.walk_rules.specs.Steps.{Standing, begun, question_of, after}
use Rattle.point_walks.specs.Over.{Answering}
use Rattle.point_walks.specs.Visits.{thing_of, is_same}
use Rattle.walk_fate_laws.specs.Games.{Game}
use Rattle.walk_fate_laws.specs.Ways.{Way, ways_from}

-- the states of the points answer
abbrev pub answers_over : (ℕ → State) → Answering
answers_over states point question = answer_of (states point) question

-- the head bounds all that follows, a mask's or an action's visit those of the same one
abbrev pub touches : Question → Question → Bool
touches (heads_of hook) other = true
touches question other = is_same (thing_of question) (thing_of other)

-- ---- whether two answers are one
abbrev pub same_head : Head → Head → Bool
same_head one other = one.serial == other.serial && one.chain == other.chain && one.pref == other.pref
    && protocol_eq one.protocol other.protocol && pointwise nat_eq one.masks other.masks

abbrev pub same_control : Control → Control → Bool
same_control controls.Accept controls.Accept = true
same_control controls.Shot controls.Shot = true
same_control controls.Unspec controls.Unspec = true
same_control controls.Pipe controls.Pipe = true
same_control controls.Reclassify controls.Reclassify = true
same_control (controls.Jump one) (controls.Jump other) = one == other
same_control (controls.Goto one) (controls.Goto other) = one == other
same_control one other = false

abbrev pub same_vlan : VlanOp → VlanOp → Bool
same_vlan (vlans.Push tpid id priority) (vlans.Push tpid' id' priority') =
    tpid == tpid' && id == id' && priority == priority'
same_vlan vlans.Pop vlans.Pop = true
same_vlan (vlans.Modify tpid id priority) (vlans.Modify tpid' id' priority') =
    tpid == tpid' && id == id' && option_eq nat_eq priority priority'
same_vlan one other = false

abbrev pub same_params : Params → Params → Bool
same_params (params.Gact control) (params.Gact control') = same_control control control'
same_params (params.Vlan op control) (params.Vlan op' control') =
    same_vlan op op' && same_control control control'
same_params (params.Skbedit priority mark queue control) (params.Skbedit priority' mark' queue' control') =
    option_eq nat_eq priority priority' && option_eq nat_eq mark mark' && option_eq nat_eq queue queue'
    && same_control control control'
same_params one other = false

abbrev pub same_answer : Answer → Answer → Bool
same_answer (told_heads ones) (told_heads others) = pointwise same_head ones others
same_answer told_no_filter told_no_filter = true
same_answer (told_actions ones) (told_actions others) = pointwise nat_eq ones others
same_answer (told_params one) (told_params other) = same_params one other
same_answer one other = false

-- ---- the walk
-- the rules of the walk (`walk_rules`), and who answers
abbrev pub walk_game : Answering → Game Standing Question Answer
walk_game answers = record {
  question = question_of;
  after = after;
  answer = answers;
  touches = touches;
  same = same_answer;
}

-- ALL WAYS OF A PACKET between two points: no visit is below the first
abbrev pub ways_of : Answering → ℕ → ℕ → Hook → List ℕ → List (Way Standing Answer)
ways_of answers before ceiling hook bytes =
    ways_from (walk_game answers) ceiling VISITS_MAX (begun hook bytes) (λ question. before)
