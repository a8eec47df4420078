-- Walks whose visits are answered alike end alike, and a walk makes few visits.
use Rattle.std.proofs.Common.{◌≡◌, ℕ, suc, ◌+◌, ◌≤◌, ◌==◌, nat_lt, Bool, true, false, cond, List, [], ◌∷◌, length, Option, Some, None, refl, subst, arith}
use Rattle.std.proofs.lemmas.Bool.Decides.{nat_tests}
use Rattle.tc_base.specs.declared.hook.Hook.{Hook}
use Rattle.act_list.specs.declared.run.Ending.{Ending}
use Rattle.act_list.specs.declared.run.Ending.TheVariants as endings
use Rattle.act_list.specs.Run.{Stand, on, over, stand_after}
use Rattle.act_kinds.specs.Acts.{control_given}
use Rattle.filter_state.specs.States.{State}
use Rattle.walk_rules.specs.declared.verdict.Verdict.TheVariants as verdicts
use Rattle.walk_rules.specs.Questions.{Head, Question, Answer, told_heads, told_no_filter, told_actions, told_params}
use Rattle.walk_rules.specs.Answers.{answer_of}
use Rattle.walk_rules.specs.declared.limits.TheConstants.{VISITS_MAX}
use Rattle.walk_rules.specs.Steps.{Place, at_head, at_mask, at_action, ended, Standing, begun, question_at, question_of, after_list, after_action, after_found, after_at, after, ran, action_at}
use Rattle.walk_rules.specs.Walks.{Outcome, outcome_with, outcome_at, outcome_of, IsWalk, AnsweredBy}

-- ---- a walk that has ended asks nothing
one_of : {X : Type 0} (o : Option X) (x y : X) → o ≡ Some x → o ≡ Some y → x ≡ y
one_of o x y first second = cc

asked : (b : Bool) (o : Option Question) (question : Question) → cond b o None ≡ Some question → (b ≡ true) × (o ≡ Some question)
asked true o question e = (refl, e)
asked false o question e = absurd (cc e)

pub asked_at : (st : Standing) (question : Question) → question_of st ≡ Some question → (nat_lt st.visits VISITS_MAX ≡ true) × (question_at st st.place ≡ Some question)
asked_at st question e = asked (nat_lt st.visits VISITS_MAX) (question_at st st.place) question e

never_both : {X : Type 0} (n : ℕ) (b : Bool) (o : X) (outcome : X) → nat_lt n VISITS_MAX ≡ true → (n == VISITS_MAX) ≡ b → cond b (Some o) None ≡ Some outcome → ⊥
never_both n true o outcome less is e = grind (arith, nat_tests, less, is)
never_both n false o outcome less is e = cc e

ended_at : (st : Standing) (place : Place) (question : Question) (outcome : Outcome) → nat_lt st.visits VISITS_MAX ≡ true → question_at st place ≡ Some question → outcome_at place st ≡ Some outcome → ⊥
ended_at st at_head question outcome less asks ends = never_both st.visits (st.visits == VISITS_MAX) (outcome_with verdicts.Drop st) outcome less refl ends
ended_at st (at_mask head masks tables) question outcome less asks ends = never_both st.visits (st.visits == VISITS_MAX) (outcome_with verdicts.Drop st) outcome less refl ends
ended_at st (at_action head actions position jumps tables) question outcome less asks ends =
    never_both st.visits (st.visits == VISITS_MAX) (outcome_with verdicts.Drop st) outcome less refl ends
ended_at st (ended verdict) question outcome less asks ends = cc asks

pub asks_or_ended : (st : Standing) (question : Question) (outcome : Outcome) → question_of st ≡ Some question → outcome_of st ≡ Some outcome → ⊥
asks_or_ended st question outcome asks ends = let at = asked_at st question asks in ended_at st st.place question outcome at.0 at.1 ends

-- ---- two walks
-- the points of two walks go together, as long as both have some
abbrev pub GoAlong : (ℕ → ℕ → Type 0) → List ℕ → List ℕ → Type 0
GoAlong Same (p ∷ ps) (q ∷ qs) = Same p q × GoAlong Same ps qs
GoAlong Same (p ∷ ps) [] = Unit {0}
GoAlong Same [] qs = Unit {0}

pub same_points : (Same : ℕ → ℕ → Type 0) → ((p : ℕ) → Same p p) → (points : List ℕ) → GoAlong Same points points
same_points Same one [] = tt
same_points Same one (p ∷ ps) = (one p, same_points Same one ps)

pub any_points : (Same : ℕ → ℕ → Type 0) → ((p q : ℕ) → Same p q) → (ps qs : List ℕ) → GoAlong Same ps qs
any_points Same all [] qs = tt
any_points Same all (p ∷ ps) [] = tt
any_points Same all (p ∷ ps) (q ∷ qs) = (all p q, any_points Same all ps qs)

abbrev pub WalkFrom : (ℕ → State) → Standing → List ℕ → Outcome → Type 0
WalkFrom states st points outcome = IsWalk (AnsweredBy states) tt st points tt outcome

-- over states that are the same at points that go together, there is one outcome
pub outcomes_agree : (first second : ℕ → State) (points more : List ℕ) (st : Standing) (one other : Outcome) → GoAlong (λ p q. first p ≡ second q) points more →
    WalkFrom first st points one → WalkFrom second st more other → one ≡ other
outcomes_agree first second [] [] st one other along walk walked = one_of (outcome_of st) one other walk.1 walked.1
outcomes_agree first second (p ∷ ps) [] st one other along walk walked = absurd (asks_or_ended st walk.0 other walk.3 walked.1)
outcomes_agree first second [] (q ∷ qs) st one other along walk walked = absurd (asks_or_ended st walked.0 one walked.3 walk.1)
outcomes_agree first second (p ∷ ps) (q ∷ qs) st one other along walk walked =
    let question : walked.0 ≡ walk.0 = one_of (question_of st) walked.0 walk.0 walked.3 walk.3 in
    let answered : answer_of (second q) walk.0 ≡ Some walked.1 = subst (λ asks. answer_of (second q) asks ≡ Some walked.1) question walked.4 in
    let again : answer_of (second q) walk.0 ≡ Some walk.1 = subst (λ s. answer_of s walk.0 ≡ Some walk.1) along.0 walk.4 in
    let answer : walked.1 ≡ walk.1 = one_of (answer_of (second q) walk.0) walked.1 walk.1 answered again in
    outcomes_agree first second ps qs (after st walk.1) one other along.1 walk.5 (subst (λ says. WalkFrom second (after st says) qs other) answer walked.5)

-- a walk in which the states of the points answer is a walk over these states
pub answered_over : {V : Type 0} (states : ℕ → State) (told : V → Question → Answer → ℕ → V → Type 0) (Holds : V → Type 0) →
    ((before now : V) (question : Question) (answer : Answer) (point : ℕ) → Holds before → told before question answer point now → (answer_of (states point) question ≡ Some answer) × Holds now) →
    (points : List ℕ) (before now : V) (st : Standing) (outcome : Outcome) → Holds before → IsWalk told before st points now outcome → WalkFrom states st points outcome
answered_over states told Holds answers [] before now st outcome holds walk = (refl, walk.1)
answered_over states told Holds answers (p ∷ ps) before now st outcome holds walk =
    let next = answers before walk.2 walk.0 walk.1 p holds walk.4 in
    (walk.0, walk.1, tt, walk.3, next.0, answered_over states told Holds answers ps walk.2 now (after st walk.1) outcome next.1 walk.5)

-- ---- the visits of a walk
-- each answer takes the walk one visit on
restart_counted : (n : ℕ) (b : Bool) (one other : Standing) → one.visits ≡ n → other.visits ≡ n → (cond b one other).visits ≡ n
restart_counted n true one other e f = e
restart_counted n false one other e f = f

list_counted : (st : Standing) (head : Head) (tables : List Head) (ending : Ending) → (after_list st head tables ending).visits ≡ st.visits + 1
list_counted st head tables endings.Accept = refl
list_counted st head tables endings.Pipe = refl
list_counted st head tables endings.Shot = refl
list_counted st head tables endings.Unspec = refl
list_counted st head tables endings.Reclassify = restart_counted (st.visits + 1) (st.restarts == 0) _ _ refl refl
list_counted st head tables (endings.Goto chain) = restart_counted (st.visits + 1) (st.restarts == 0) _ _ refl refl

action_counted : (st : Standing) (head : Head) (actions : List ℕ) (tables : List Head) (stand : Stand) → (after_action st head actions tables stand).visits ≡ st.visits + 1
action_counted st head actions tables (on position jumps) = refl
action_counted st head actions tables (over ending) = list_counted st head tables ending

found_counted : (st : Standing) (head : Head) (tables : List Head) (actions : List ℕ) → (after_found st head tables actions).visits ≡ st.visits + 1
found_counted st head tables [] = refl
found_counted st head tables (action ∷ actions) = refl

counted : (st : Standing) (place : Place) (answer : Answer) → (after_at st place answer).visits ≡ st.visits + 1
counted st (at_mask head (mask ∷ masks) tables) (told_actions actions) = found_counted st head tables actions
counted st (at_action head actions position jumps tables) (told_params params) =
    action_counted (ran st (action_at actions position) params) head actions tables (stand_after (length actions) position jumps (control_given params st.frame))
counted st at_head (told_heads heads) = refl
counted st (at_mask head (mask ∷ masks) tables) told_no_filter = refl
counted st place answer = refl

pub one_more : (st : Standing) (answer : Answer) → (after st answer).visits ≡ st.visits + 1
one_more st answer = counted st st.place answer

less_than_most : (n : ℕ) → nat_lt n VISITS_MAX ≡ true → suc n ≤ VISITS_MAX
less_than_most n less = grind (arith, nat_tests, less)

-- from a standing on, no more visits are made than are left there, whatever is answered
pub few_more : {V : Type 0} (told : V → Question → Answer → ℕ → V → Type 0) (points : List ℕ) (before now : V) (st : Standing) (outcome : Outcome) → st.visits ≤ VISITS_MAX →
    IsWalk told before st points now outcome → length points + st.visits ≤ VISITS_MAX
few_more told [] before now st outcome most walk = omega (arith, most)
few_more told (p ∷ ps) before now st outcome most walk =
    let less = less_than_most st.visits (asked_at st walk.0 walk.3).0 in
    let more = one_more st walk.1 in
    let rest = few_more told ps walk.2 now (after st walk.1) outcome (omega (arith, less, more)) walk.5 in
    omega (arith, rest, more)

-- A WALK MAKES 65,536 VISITS AT MOST, whatever is answered
pub few_points : {V : Type 0} (told : V → Question → Answer → ℕ → V → Type 0) (hook : Hook) (bytes points : List ℕ) (before now : V) (outcome : Outcome) →
    IsWalk told before (begun hook bytes) points now outcome → length points ≤ 65536
few_points told hook bytes points before now outcome walk = let few = few_more told points before now (begun hook bytes) outcome (omega arith) walk in omega (arith, few)
