-- A walk that has had its head's answer: it never asks for the head again, and it ends with an outcome.
use Rattle.std.proofs.Common.{◌≡◌, ◌∙◌, ℕ, ◌+◌, ◌≤◌, ◌==◌, nat_lt, Bool, true, false, cond, List, [], ◌∷◌}
use Rattle.std.proofs.Common.{length, Option, Some, None, refl, sym, arith}
use Rattle.std.specs.Prelude.{if◌then◌else◌}
use Rattle.std.proofs.lemmas.Bool.Decides.{nat_tests}
use Rattle.frame_edit.specs.Tags.{ether_type_of}
use Rattle.act_kinds.specs.Acts.{control_given}
use Rattle.act_list.specs.declared.run.Ending.{Ending}
use Rattle.act_list.specs.declared.run.Ending.TheVariants as endings
use Rattle.act_list.specs.Run.{Stand, on, over, stand_after}
use Rattle.walk_rules.specs.declared.limits.TheConstants.{VISITS_MAX}
use Rattle.walk_rules.specs.declared.verdict.Verdict.TheVariants as verdicts
use Rattle.walk_rules.specs.Questions.{Head, Question, heads_of, filter_of, params_of, Answer}
use Rattle.walk_rules.specs.Questions.{told_no_filter, told_actions, told_params}
use Rattle.walk_rules.specs.Steps.{Place, at_head, at_mask, at_action, ended, Standing, tries, masks_or}
use Rattle.walk_rules.specs.Steps.{first_stop, question_at, question_of, after_list, after_action}
use Rattle.walk_rules.specs.Steps.{after_found, after_at, after, ran, action_at}
use Rattle.walk_rules.specs.Walks.{Outcome, outcome_with, outcome_at, outcome_of}
use Rattle.walk_rules.proofs.Agreeing.{asked_at, one_more}

-- behind the head, and at a mask only if there is one
abbrev pub IsBehind : Place → Type 0
IsBehind at_head = ⊥
IsBehind (at_mask head [] tables) = ⊥
IsBehind place = Unit {0}

masks_behind : (head : Head) (masks : List ℕ) (tables : List Head) (next : Place) → IsBehind next
    → IsBehind (masks_or head masks tables next)
masks_behind head [] tables next is = is
masks_behind head (mask ∷ masks) tables next is = tt

either_behind : (b : Bool) (one other : Place) → IsBehind one → IsBehind other
    → IsBehind (if b then one else other)
either_behind true one other first second = first
either_behind false one other first second = second

pub stop_behind : (chain ether : ℕ) (heads : List Head) → IsBehind (first_stop chain ether heads)
stop_behind chain ether [] = tt
stop_behind chain ether (head ∷ tables) =
    let next = first_stop chain ether tables in let rest = stop_behind chain ether tables in
    either_behind (tries chain ether head) (masks_or head head.masks tables next) next
    (masks_behind head head.masks tables next rest) rest

restart_behind : (b : Bool) (one other : Standing) → IsBehind one.place → IsBehind other.place
    → IsBehind (cond b one other).place
restart_behind true one other first second = first
restart_behind false one other first second = second

list_behind : (st : Standing) (head : Head) (tables : List Head) (ending : Ending)
    → IsBehind (after_list st head tables ending).place
list_behind st head tables endings.Accept = tt
list_behind st head tables endings.Pipe = tt
list_behind st head tables endings.Shot = tt
list_behind st head tables endings.Unspec = stop_behind head.chain (ether_type_of st.frame.bytes) tables
list_behind st head tables endings.Reclassify =
    restart_behind (st.restarts == 0) _ _ tt (stop_behind 0 (ether_type_of st.frame.bytes) st.heads)
list_behind st head tables (endings.Goto chain) =
    restart_behind (st.restarts == 0) _ _ tt (stop_behind chain (ether_type_of st.frame.bytes) st.heads)

action_behind : (st : Standing) (head : Head) (actions : List ℕ) (tables : List Head) (stand : Stand)
    → IsBehind (after_action st head actions tables stand).place
action_behind st head actions tables (on position jumps) = tt
action_behind st head actions tables (over ending) = list_behind st head tables ending

found_behind : (st : Standing) (head : Head) (tables : List Head) (actions : List ℕ)
    → IsBehind (after_found st head tables actions).place
found_behind st head tables [] = tt
found_behind st head tables (action ∷ actions) = tt

behind : (st : Standing) (place : Place) (answer : Answer) → IsBehind place
    → IsBehind (after_at st place answer).place
behind st at_head answer is = absurd is
behind st (at_mask head [] tables) answer is = absurd is
behind st (at_mask head (mask ∷ masks) tables) told_no_filter is =
    let next = first_stop head.chain (ether_type_of st.frame.bytes) tables in
    masks_behind head masks tables next (stop_behind head.chain (ether_type_of st.frame.bytes) tables)
behind st (at_mask head (mask ∷ masks) tables) (told_actions actions) is = found_behind st head tables actions
behind st (at_action head actions position jumps tables) (told_params params) is =
    action_behind (ran st (action_at actions position) params) head actions tables
    (stand_after (length actions) position jumps (control_given params st.frame))
behind st place answer is = is

-- ---- between visits
pub record IsUnderway (st : Standing) : Type 0 where
  pub place : IsBehind st.place
  pub few : st.visits ≤ VISITS_MAX

less_than : (n : ℕ) → nat_lt n VISITS_MAX ≡ true → n + 1 ≤ VISITS_MAX
less_than n less = grind (arith, nat_tests, less)

pub goes_on : (st : Standing) (question : Question) (answer : Answer) → IsUnderway st
    → question_of st ≡ Some question → IsUnderway (after st answer)
goes_on st question answer underway asks =
    let more = one_more st answer in
    let few = less_than st.visits (asked_at st question asks).0 in
    record { place = behind st st.place answer underway.place; few = omega (arith, more, few) }

-- ---- it asks for masks and actions alone
abbrev pub IsNoHead : Question → Type 0
IsNoHead (heads_of hook) = ⊥
IsNoHead question = Unit {0}

no_head_at : (st : Standing) (place : Place) (question : Question) → IsBehind place
    → question_at st place ≡ Some question → IsNoHead question
no_head_at st at_head question is asks = absurd is
no_head_at st (at_mask head [] tables) question is asks = absurd is
no_head_at st (at_mask head (mask ∷ masks) tables) (heads_of hook) is asks = absurd (cc asks)
no_head_at st (at_action head actions position jumps tables) (heads_of hook) is asks = absurd (cc asks)
no_head_at st (ended verdict) (heads_of hook) is asks = absurd (cc asks)
no_head_at st place (filter_of table mask values) is asks = tt
no_head_at st place (params_of serial) is asks = tt

pub no_head : (st : Standing) (question : Question) → IsUnderway st → question_of st ≡ Some question
    → IsNoHead question
no_head st question underway asks =
    no_head_at st st.place question underway.place (asked_at st question asks).1

-- ---- and where it asks nothing more it has an outcome
spent : (n : ℕ) → nat_lt n VISITS_MAX ≡ false → n ≤ VISITS_MAX → (n == VISITS_MAX) ≡ true
spent n reached within = grind (arith, nat_tests, reached, within)

none_asked : (b : Bool) (o : Option Question) (question : Question) → o ≡ Some question → cond b o None ≡ None
    → b ≡ false
none_asked true o question is none = absurd (cc (sym is ∙ none))
none_asked false o question is none = refl

drops : (b : Bool) (outcome : Outcome) → b ≡ true → (if b then Some outcome else None) ≡ Some outcome
drops true outcome is = refl
drops false outcome is = absurd (cc is)

dropped_there : (st : Standing) (o : Option Question) (question : Question) → o ≡ Some question
    → cond (nat_lt st.visits VISITS_MAX) o None ≡ None → st.visits ≤ VISITS_MAX
    → (outcome : Outcome)
    × ((if st.visits == VISITS_MAX then Some (outcome_with verdicts.Drop st) else None) ≡ Some outcome)
dropped_there st o question is none few =
    let out = outcome_with verdicts.Drop st in (
      out,
      drops (st.visits == VISITS_MAX) out
          (spent st.visits (none_asked (nat_lt st.visits VISITS_MAX) o question is none) few),
    )

at_end : (st : Standing) (place : Place) → st.visits ≤ VISITS_MAX → IsBehind place
    → cond (nat_lt st.visits VISITS_MAX) (question_at st place) None ≡ None
    → (outcome : Outcome) × (outcome_at place st ≡ Some outcome)
at_end st at_head few is none = absurd is
at_end st (at_mask head [] tables) few is none = absurd is
at_end st (at_mask head (mask ∷ masks) tables) few is none =
    dropped_there st (question_at st (at_mask head (mask ∷ masks) tables)) _ refl none few
at_end st (at_action head actions position jumps tables) few is none =
    dropped_there st (question_at st (at_action head actions position jumps tables)) _ refl none few
at_end st (ended verdict) few is none = (outcome_with verdict st, refl)

pub ends_so : (st : Standing) → IsUnderway st → question_of st ≡ None
    → (outcome : Outcome) × (outcome_of st ≡ Some outcome)
ends_so st underway none = at_end st st.place underway.few underway.place none
