-- Over one state a walk leads to the plain outcome, wherever it stands. What follows a part of the walk is a
-- function of what is carried and of the visits left, so each part is shown by itself, from the list of
-- actions up to the chains.
use Rattle.std.proofs.Common.{◌≡◌, ℕ, zero, suc, ◌+◌, ◌-◌, ◌<◌, ◌==◌, ◌||◌, nat_lt, nat_le, Bool, true, false, cond, List, [], ◌∷◌, length, get_or, Some, None, refl, sym, ap, subst, arith}
use Rattle.std.specs.List.{list_any}
use Rattle.std.proofs.lemmas.Bool.Decides.{nat_tests}
use Rattle.tc_base.specs.declared.hook.Hook.{Hook}
use Rattle.frame_edit.specs.Tags.{ether_type_of}
use Rattle.act_kinds.specs.declared.params.Control.{Control}
use Rattle.act_kinds.specs.declared.params.Control.TheVariants as controls
use Rattle.act_kinds.specs.Acts.{control_given}
use Rattle.act_list.specs.declared.run.Ending.{Ending}
use Rattle.act_list.specs.declared.run.Ending.TheVariants as endings
use Rattle.act_list.specs.Run.{Stand, on, over, stand_after}
use Rattle.filter_state.specs.States.{Action, State}
use Rattle.filter_state.specs.Actions.{has_serial}
use Rattle.filter_state.specs.Sound.{Each}
use Rattle.walk_rules.specs.declared.verdict.Verdict.{Verdict}
use Rattle.walk_rules.specs.declared.verdict.Verdict.TheVariants as verdicts
use Rattle.walk_rules.specs.Questions.{Head, Question, params_of, Answer, told_params}
use Rattle.walk_rules.specs.Answers.{answer_of, params_answer}
use Rattle.walk_rules.specs.declared.limits.TheConstants.{VISITS_MAX}
use Rattle.walk_rules.specs.Steps.{Place, at_mask, at_action, ended, Standing, question_at, question_of, restarted, after_list, after_action, after, first_stop}
use Rattle.walk_rules.specs.Walks.{Outcome, IsWalk, AnsweredBy}
use Rattle.filter_state.proofs.Pairs.{any_first}
use Rattle.walk_rules.specs.Plain.{Carried, ends_with, carried_on, ListEnd, list_over, list_on, run_action, run_list, after_end}

-- ---- visits that are left
abbrev pub AreLeft : ℕ → ℕ → Type 0
AreLeft left visits = left + visits ≡ VISITS_MAX

some_left : (n v : ℕ) → AreLeft (suc n) v → nat_lt v VISITS_MAX ≡ true
some_left n v left = grind (arith, nat_tests, left)

none_left : (v : ℕ) → AreLeft 0 v → (v == VISITS_MAX) ≡ true
none_left v left = grind (arith, nat_tests, left)

pub one_fewer : (n v : ℕ) → AreLeft (suc n) v → AreLeft n (v + 1)
one_fewer n v left = omega (arith, left)

-- ---- a walk over one state
-- from there, the walk over the state ends so
abbrev pub Leads : State → Standing → Outcome → Type 0
Leads s st outcome = (points : List ℕ) × IsWalk (AnsweredBy (λ point. s)) tt st points tt outcome

pub one_visit : (s : State) (st : Standing) (question : Question) (answer : Answer) (outcome : Outcome) → question_of st ≡ Some question → answer_of s question ≡ Some answer →
    Leads s (after st answer) outcome → Leads s st outcome
one_visit s st question answer outcome asks answers more = (0 ∷ more.0, (question, answer, tt, asks, answers, more.1))

-- a walk on its way
abbrev pub way : Hook → List Head → ℕ → ℕ → Carried → Place → Standing
way hook heads restarts visits carried place = record {
  hook = hook;
  frame = carried.frame;
  heads = heads;
  restarts = restarts;
  visits = visits;
  executed = carried.executed;
  place = place;
}

pub asks_at : (hook : Hook) (heads : List Head) (r n v : ℕ) (carried : Carried) (place : Place) → AreLeft (suc n) v →
    question_of (way hook heads r v carried place) ≡ question_at (way hook heads r v carried place) place
asks_at hook heads r n v carried place left = ap (λ b. cond b (question_at (way hook heads r v carried place) place) None) (some_left n v left)

pub at_end : (s : State) (hook : Hook) (heads : List Head) (r v : ℕ) (carried : Carried) (verdict : Verdict) → Leads s (way hook heads r v carried (ended verdict)) (ends_with verdict carried)
at_end s hook heads r v carried verdict = ([], (refl, refl))

pub mask_spent : (s : State) (hook : Hook) (heads : List Head) (r v : ℕ) (carried : Carried) (head : Head) (masks : List ℕ) (tables : List Head) → AreLeft 0 v →
    Leads s (way hook heads r v carried (at_mask head masks tables)) (ends_with verdicts.Drop carried)
mask_spent s hook heads r v carried head masks tables left = ([], (refl, ap (λ b. cond b (Some (ends_with verdicts.Drop carried)) None) (none_left v left)))

action_spent : (s : State) (hook : Hook) (heads : List Head) (r v : ℕ) (carried : Carried) (head : Head) (actions : List ℕ) (position jumps : ℕ) (tables : List Head) → AreLeft 0 v →
    Leads s (way hook heads r v carried (at_action head actions position jumps tables)) (ends_with verdicts.Drop carried)
action_spent s hook heads r v carried head actions position jumps tables left =
    ([], (refl, ap (λ b. cond b (Some (ends_with verdicts.Drop carried)) None) (none_left v left)))

-- ---- what follows a list
-- a restart leads on, and so do the tables behind
abbrev pub RestartLeads : State → Hook → List Head → ℕ → (ℕ → ℕ → Carried → Outcome) → Type 0
RestartLeads s hook heads r restart =
    (n v chain : ℕ) (carried : Carried) (place : Place) → AreLeft n (v + 1) → Leads s (restarted (way hook heads r v carried place) chain) (restart chain n carried)

abbrev pub TablesLead : State → Hook → List Head → ℕ → ℕ → List Head → (ℕ → Carried → Outcome) → Type 0
TablesLead s hook heads r chain tables next =
    (n v : ℕ) (carried : Carried) → AreLeft n v → Leads s (way hook heads r v carried (first_stop chain (ether_type_of carried.frame.bytes) tables)) (next n carried)

-- the position after an action is one of the list
abbrev IsWithin : ℕ → Stand → Type 0
IsWithin length (on position jumps) = position < length
IsWithin length (over ending) = Unit {0}

pipe_within : (length position jumps : ℕ) (b : Bool) → (position + 1 == length) ≡ b → position < length → IsWithin length (cond b (over endings.Pipe) (on (position + 1) jumps))
pipe_within length position jumps true is within = tt
pipe_within length position jumps false is within = grind (arith, nat_tests, is, within)

jump_within : (length to jumps : ℕ) (b : Bool) → (to == 0 || (nat_le length to || jumps == 0)) ≡ b → IsWithin length (cond b (over endings.Accept) (on to (jumps - 1)))
jump_within length to jumps true is = tt
jump_within length to jumps false is = grind (arith, nat_tests, is)

stand_within : (length position jumps : ℕ) (control : Control) → position < length → IsWithin length (stand_after length position jumps control)
stand_within length position jumps controls.Accept within = tt
stand_within length position jumps controls.Shot within = tt
stand_within length position jumps controls.Unspec within = tt
stand_within length position jumps controls.Reclassify within = tt
stand_within length position jumps (controls.Goto chain) within = tt
stand_within length position jumps controls.Pipe within = pipe_within length position jumps (position + 1 == length) refl within
stand_within length position jumps (controls.Jump to) within = jump_within length to jumps (to == 0 || (nat_le length to || jumps == 0)) refl

-- an action that is live is found
abbrev pub IsLive : State → ℕ → Type 0
IsLive s serial = list_any (has_serial serial) s.actions ≡ true

live_at : (s : State) (actions : List ℕ) → Each (IsLive s) actions → (position : ℕ) → position < length actions → IsLive s (get_or actions position 0)
live_at s [] live position within = absurd (omega arith)
live_at s (action ∷ actions) live zero within = live.0
live_at s (action ∷ actions) live (suc position) within = live_at s actions live.1 position (omega arith)

module _ (s : State) (hook : Hook) (heads : List Head) (r : ℕ) (restart : ℕ → ℕ → Carried → Outcome) (again : RestartLeads s hook heads r restart)
    (head : Head) (tables : List Head) (next : ℕ → Carried → Outcome) (onwards : TablesLead s hook heads r head.chain tables next)
  where
    list_ended : (n v : ℕ) (carried : Carried) (place : Place) (ending : Ending) → AreLeft n (v + 1) →
        Leads s (after_list (way hook heads r v carried place) head tables ending) (after_end restart next (list_over ending n carried))
    list_ended n v carried place endings.Accept left = at_end s hook heads r (v + 1) carried verdicts.Pass
    list_ended n v carried place endings.Pipe left = at_end s hook heads r (v + 1) carried verdicts.Pass
    list_ended n v carried place endings.Shot left = at_end s hook heads r (v + 1) carried verdicts.Drop
    list_ended n v carried place endings.Unspec left = onwards n (v + 1) carried left
    list_ended n v carried place endings.Reclassify left = again n v 0 carried place left
    list_ended n v carried place (endings.Goto chain) left = again n v chain carried place left

    abbrev ListLeads : List ℕ → ℕ → Type 0
    ListLeads actions n =
        (v position jumps : ℕ) (carried : Carried) → AreLeft n v → position < length actions →
        Leads s (way hook heads r v carried (at_action head actions position jumps tables)) (after_end restart next (run_list s actions n carried position jumps))

    action_ran : (actions : List ℕ) (n v : ℕ) (carried : Carried) (place : Place) → AreLeft n (v + 1) → ListLeads actions n → (stand : Stand) → IsWithin (length actions) stand →
        Leads s (after_action (way hook heads r v carried place) head actions tables stand)
        (after_end restart next (list_on (λ position jumps. run_list s actions n carried position jumps) n carried stand))
    action_ran actions n v carried place left more (on position jumps) within = more (v + 1) position jumps carried left within
    action_ran actions n v carried place left more (over ending) within = list_ended n v carried place ending left

    pub list_leads : (actions : List ℕ) → Each (IsLive s) actions → (n v position jumps : ℕ) (carried : Carried) → AreLeft n v → position < length actions →
        Leads s (way hook heads r v carried (at_action head actions position jumps tables)) (after_end restart next (run_list s actions n carried position jumps))
    list_leads actions live zero v position jumps carried left within = action_spent s hook heads r v carried head actions position jumps tables left
    list_leads actions live (suc n) v position jumps carried left within =
        let serial : ℕ = get_or actions position 0 in
        let place : Place = at_action head actions position jumps tables in
        let more : Carried → ℕ → ℕ → ListEnd = λ carried' position' jumps'. run_list s actions n carried' position' jumps' in
        let live_one = any_first (has_serial serial) s.actions (live_at s actions live position within) in
        let action : Action = live_one.0 in
        let then : Carried = carried_on carried serial action.params in
        subst (λ o. Leads s (way hook heads r v carried place) (after_end restart next (run_action more actions n position jumps carried o))) (sym live_one.1)
        (one_visit s (way hook heads r v carried place) (params_of serial) (told_params action.params) _ (asks_at hook heads r n v carried place left) (ap params_answer live_one.1)
        (action_ran actions n v then place (one_fewer n v left) (λ v' position' jumps' carried' left' within'. list_leads actions live n v' position' jumps' carried' left' within')
        (stand_after (length actions) position jumps (control_given action.params carried.frame))
        (stand_within (length actions) position jumps (control_given action.params carried.frame) within)))
