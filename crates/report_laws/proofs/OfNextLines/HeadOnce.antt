-- A walk asks for the head once, at its first point.
use Rattle.std.proofs.Common.{◌≡◌, ◌∙◌, ℕ, nat_lt, ◌==◌, Bool, true, false, cond, List, [], ◌∷◌, length, Option, Some, None, refl, sym, ap, subst}
use Rattle.std.specs.Prelude.{if◌then◌else◌}
use Rattle.std.specs.Option.{option_and_then}
use Rattle.tc_base.specs.declared.hook.Hook.{Hook}
use Rattle.frame_edit.specs.Tags.{ether_type_of}
use Rattle.act_kinds.specs.Acts.{control_given}
use Rattle.act_list.specs.declared.run.Ending.{Ending}
use Rattle.act_list.specs.declared.run.Ending.TheVariants as endings
use Rattle.act_list.specs.Run.{Stand as ListStand, on, over, stand_after}
use Rattle.flow_dissect.specs.Fields.{frame_values}
use Rattle.filter_state.specs.declared.edit.Edit.{Edit}
use Rattle.filter_state.specs.States.{State}
use Rattle.filter_state.specs.Journals.{state_at}
use Rattle.walk_rules.specs.declared.limits.TheConstants.{VISITS_MAX}
use Rattle.walk_rules.specs.Questions.{Head, Question, heads_of, filter_of, params_of, Answer, told_heads, told_no_filter, told_actions, told_params}
use Rattle.walk_rules.specs.Heads.{heads_on}
use Rattle.walk_rules.specs.Steps.{Place, at_head, at_mask, at_action, ended, Standing, begun, tries, masks_or, first_stop, question_at, question_of, after_list, after_action, after_found, after_at, after, ran, action_at}
use Rattle.point_walks.specs.Over.{Answering, answered_at, moved_by, one_visit, stands_after}
use Rattle.point_walks.specs.Visits.{visit_more, visits_over}
use Rattle.walk_rules.specs.OfPoints.Points.{Visit}
use Rattle.report_laws.specs.OfNextLines.Walks.{answers_of, AgreesFrom}

abbrev pub Headless : Place → Type 0
Headless at_head = ⊥
Headless place = Unit {0}

masks_headless : (head : Head) (masks : List ℕ) (tables : List Head) (next : Place) → Headless next → Headless (masks_or head masks tables next)
masks_headless head [] tables next is = is
masks_headless head (mask ∷ masks) tables next is = tt

either_headless : (b : Bool) (one other : Place) → Headless one → Headless other → Headless (if b then one else other)
either_headless true one other first second = first
either_headless false one other first second = second

pub stop_headless : (chain ether : ℕ) (heads : List Head) → Headless (first_stop chain ether heads)
stop_headless chain ether [] = tt
stop_headless chain ether (head ∷ tables) =
    let rest = stop_headless chain ether tables in
    either_headless (tries chain ether head) (masks_or head head.masks tables (first_stop chain ether tables)) (first_stop chain ether tables) (masks_headless head head.masks tables (first_stop chain ether tables) rest) rest

restart_headless : (b : Bool) (one other : Standing) → Headless one.place → Headless other.place → Headless (cond b one other).place
restart_headless true one other first second = first
restart_headless false one other first second = second

list_headless : (st : Standing) (head : Head) (tables : List Head) (ending : Ending) → Headless (after_list st head tables ending).place
list_headless st head tables endings.Accept = tt
list_headless st head tables endings.Pipe = tt
list_headless st head tables endings.Shot = tt
list_headless st head tables endings.Unspec = stop_headless head.chain (ether_type_of st.frame.bytes) tables
list_headless st head tables endings.Reclassify = restart_headless (st.restarts == 0) _ _ tt (stop_headless 0 (ether_type_of st.frame.bytes) st.heads)
list_headless st head tables (endings.Goto chain) = restart_headless (st.restarts == 0) _ _ tt (stop_headless chain (ether_type_of st.frame.bytes) st.heads)

action_headless : (st : Standing) (head : Head) (actions : List ℕ) (tables : List Head) (stand : ListStand) → Headless (after_action st head actions tables stand).place
action_headless st head actions tables (on position jumps) = tt
action_headless st head actions tables (over ending) = list_headless st head tables ending

found_headless : (st : Standing) (head : Head) (tables : List Head) (actions : List ℕ) → Headless (after_found st head tables actions).place
found_headless st head tables [] = tt
found_headless st head tables (action ∷ actions) = tt

pub headless : (st : Standing) (place : Place) (answer : Answer) → Headless place → Headless (after_at st place answer).place
headless st at_head answer is = absurd is
headless st (at_mask head [] tables) (told_heads heads) is = tt
headless st (at_mask head [] tables) told_no_filter is = tt
headless st (at_mask head [] tables) (told_actions actions) is = tt
headless st (at_mask head [] tables) (told_params params) is = tt
headless st (at_mask head (mask ∷ masks) tables) told_no_filter is = masks_headless head masks tables (first_stop head.chain (ether_type_of st.frame.bytes) tables) (stop_headless head.chain (ether_type_of st.frame.bytes) tables)
headless st (at_mask head (mask ∷ masks) tables) (told_actions actions) is = found_headless st head tables actions
headless st (at_mask head (mask ∷ masks) tables) (told_heads heads) is = tt
headless st (at_mask head (mask ∷ masks) tables) (told_params params) is = tt
headless st (at_action head actions position jumps tables) (told_params params) is =
    action_headless (ran st (action_at actions position) params) head actions tables (stand_after (length actions) position jumps (control_given params st.frame))
headless st (at_action head actions position jumps tables) (told_heads heads) is = tt
headless st (at_action head actions position jumps tables) told_no_filter is = tt
headless st (at_action head actions position jumps tables) (told_actions others) is = tt
headless st (ended verdict) answer is = tt

-- ---- the same answers
module _ (answers : Answering) (journal : List Edit) (hook : Hook) (first : ℕ) (agrees : AgreesFrom answers journal hook first) where
  pub same_cond : (b : Bool) (o : Option Question) (point : ℕ) → answered_at answers point o ≡ answered_at (answers_of journal) point o → answered_at answers point (cond b o None) ≡ answered_at (answers_of journal) point (cond b o None)
  same_cond true o point same = same
  same_cond false o point same = refl

  pub same_at : (st : Standing) (place : Place) (point : ℕ) → Headless place → answered_at answers point (question_at st place) ≡ answered_at (answers_of journal) point (question_at st place)
  same_at st at_head point is = absurd is
  same_at st (at_mask head [] tables) point is = refl
  same_at st (at_mask head (mask ∷ masks) tables) point is = agrees.filters point head.serial mask (frame_values st.frame.bytes)
  same_at st (at_action head actions position jumps tables) point is = agrees.params point (action_at actions position)
  same_at st (ended verdict) point is = refl

  same_from : (st : Standing) (points : List ℕ) → Headless st.place → stands_after answers st points ≡ stands_after (answers_of journal) st points
  same_from st [] is = refl
  same_from st (point ∷ points) is =
      ap (λ (a : Option Answer). option_and_then (λ next. stands_after answers next points) (moved_by st a)) (same_cond (nat_lt st.visits VISITS_MAX) (question_at st st.place) point (same_at st st.place point is))
      ∙ by_answer (answered_at (answers_of journal) point (question_of st)) (λ answer. same_from (after st answer) points (headless st st.place answer is))
    where
      by_answer : (a : Option Answer) → ((answer : Answer) → stands_after answers (after st answer) points ≡ stands_after (answers_of journal) (after st answer) points)
          → option_and_then (λ next. stands_after answers next points) (moved_by st a) ≡ option_and_then (λ next. stands_after (answers_of journal) next points) (moved_by st a)
      by_answer None rest = refl
      by_answer (Some answer) rest = rest answer

  pub same_walk : (bytes points : List ℕ) → stands_after answers (begun hook bytes) (first ∷ points) ≡ stands_after (answers_of journal) (begun hook bytes) (first ∷ points)
  same_walk bytes points =
      ap (λ (a : Option Answer). option_and_then (λ next. stands_after answers next points) (moved_by (begun hook bytes) a)) agrees.head
      ∙ same_from (after (begun hook bytes) (told_heads (heads_on hook (state_at first journal)))) points (stop_headless 0 _ (heads_on hook (state_at first journal)))

  -- and the same visits
  more_same : (o : Option Question) (a : Option Answer) (point : ℕ) (one other : Answer → List Visit) → ((answer : Answer) → one answer ≡ other answer) → visit_more o a point one ≡ visit_more o a point other
  more_same None a point one other rest = refl
  more_same (Some question) None point one other rest = refl
  more_same (Some question) (Some answer) point one other rest = ap (λ (vs : List Visit). record { question = question; point = point } ∷ vs) (rest answer)

  visits_from : (st : Standing) (points : List ℕ) → Headless st.place → visits_over answers st points ≡ visits_over (answers_of journal) st points
  visits_from st [] is = refl
  visits_from st (point ∷ points) is =
      ap (λ (a : Option Answer). visit_more (question_of st) a point (λ (answer : Answer). visits_over answers (after st answer) points)) (same_cond (nat_lt st.visits VISITS_MAX) (question_at st st.place) point (same_at st st.place point is))
      ∙ more_same (question_of st) (answered_at (answers_of journal) point (question_of st)) point (λ (answer : Answer). visits_over answers (after st answer) points) (λ (answer : Answer). visits_over (answers_of journal) (after st answer) points)
      (λ answer. visits_from (after st answer) points (headless st st.place answer is))

  pub same_visits : (bytes points : List ℕ) → visits_over answers (begun hook bytes) (first ∷ points) ≡ visits_over (answers_of journal) (begun hook bytes) (first ∷ points)
  same_visits bytes points =
      let heads : Answer = told_heads (heads_on hook (state_at first journal)) in
      ap (λ (a : Option Answer). visit_more (Some (heads_of hook)) a first (λ (answer : Answer). visits_over answers (after (begun hook bytes) answer) points)) agrees.head
      ∙ ap (λ (vs : List Visit). record { question = heads_of hook; point = first } ∷ vs) (visits_from (after (begun hook bytes) heads) points (stop_headless 0 _ (heads_on hook (state_at first journal))))
