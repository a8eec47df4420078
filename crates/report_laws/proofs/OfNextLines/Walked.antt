-- The walk at given points: as a function, and as lawful runs say it.
use Rattle.std.proofs.Common.{◌≡◌, ◌∙◌, ℕ, suc, ◌+◌, ◌<◌, ◌≤◌, ◌==◌, nat_lt, Bool, true, false, cond, List, [], ◌∷◌, ◌++◌, length, Option, Some, None, refl, sym, ap, subst, append_assoc, append-nil, arith}
use Rattle.std.specs.Prelude.{if◌then◌else◌}
use Rattle.std.specs.Option.{option_and_then}
use Rattle.std.proofs.lemmas.Bool.Decides.{nat_tests}
use Rattle.frame_edit.specs.Tags.{ether_type_of}
use Rattle.act_kinds.specs.Acts.{control_given}
use Rattle.act_list.specs.declared.run.Ending.{Ending}
use Rattle.act_list.specs.declared.run.Ending.TheVariants as endings
use Rattle.act_list.specs.Run.{Stand as ListStand, on, over, stand_after}
use Rattle.filter_state.specs.declared.edit.Edit.{Edit}
use Rattle.filter_state.specs.States.{State}
use Rattle.filter_state.specs.Journals.{state_at}
use Rattle.walk_rules.specs.declared.limits.TheConstants.{VISITS_MAX}
use Rattle.walk_rules.specs.declared.verdict.Verdict.TheVariants as verdicts
use Rattle.walk_rules.specs.Questions.{Head, Question, Answer, told_heads, told_no_filter, told_actions, told_params}
use Rattle.walk_rules.specs.Answers.{answer_of}
use Rattle.walk_rules.specs.Steps.{Place, at_head, at_mask, at_action, ended, Standing, begun, tries, masks_or, first_stop, question_at, question_of, moved, restarted, after_list, after_action, after_found, after_at, after, ran, action_at}
use Rattle.walk_rules.specs.Walks.{Outcome as WalkOutcome, outcome_with, outcome_at, outcome_of, IsWalk}
use Rattle.walk_rules.proofs.Agreeing.{asked_at, asks_or_ended, one_more}
use Rattle.walk_rules.specs.OfPoints.Points.{Visit, IsVisited}
use Rattle.point_walks.specs.Over.{Answering, answered_at, moved_by, one_visit, stands_after}
use Rattle.point_walks.specs.Visits.{visit_more, visits_over}
use Rattle.report_laws.specs.OfNextLines.Walks.{answers_of}

-- ---- where a walk can stand: at a mask only if there is one
abbrev IsPlaced : Place → Type 0
IsPlaced (at_mask head [] tables) = ⊥
IsPlaced place = Unit {0}

masks_placed : (head : Head) (masks : List ℕ) (tables : List Head) (next : Place) → IsPlaced next → IsPlaced (masks_or head masks tables next)
masks_placed head [] tables next placed = placed
masks_placed head (mask ∷ masks) tables next placed = tt

either_placed : (b : Bool) (one other : Place) → IsPlaced one → IsPlaced other → IsPlaced (if b then one else other)
either_placed true one other first second = first
either_placed false one other first second = second

stop_placed : (chain ether : ℕ) (heads : List Head) → IsPlaced (first_stop chain ether heads)
stop_placed chain ether [] = tt
stop_placed chain ether (head ∷ tables) =
    let rest = stop_placed chain ether tables in
    either_placed (tries chain ether head) (masks_or head head.masks tables (first_stop chain ether tables)) (first_stop chain ether tables) (masks_placed head head.masks tables (first_stop chain ether tables) rest) rest

restart_placed : (b : Bool) (one other : Standing) → IsPlaced one.place → IsPlaced other.place → IsPlaced (cond b one other).place
restart_placed true one other first second = first
restart_placed false one other first second = second

list_placed : (st : Standing) (head : Head) (tables : List Head) (ending : Ending) → IsPlaced (after_list st head tables ending).place
list_placed st head tables endings.Accept = tt
list_placed st head tables endings.Pipe = tt
list_placed st head tables endings.Shot = tt
list_placed st head tables endings.Unspec = stop_placed head.chain (ether_type_of st.frame.bytes) tables
list_placed st head tables endings.Reclassify = restart_placed (st.restarts == 0) _ _ tt (stop_placed 0 (ether_type_of st.frame.bytes) st.heads)
list_placed st head tables (endings.Goto chain) = restart_placed (st.restarts == 0) _ _ tt (stop_placed chain (ether_type_of st.frame.bytes) st.heads)

action_placed : (st : Standing) (head : Head) (actions : List ℕ) (tables : List Head) (stand : ListStand) → IsPlaced (after_action st head actions tables stand).place
action_placed st head actions tables (on position jumps) = tt
action_placed st head actions tables (over ending) = list_placed st head tables ending

found_placed : (st : Standing) (head : Head) (tables : List Head) (actions : List ℕ) → IsPlaced (after_found st head tables actions).place
found_placed st head tables [] = tt
found_placed st head tables (action ∷ actions) = tt

placed : (st : Standing) (place : Place) (answer : Answer) → IsPlaced place → IsPlaced (after_at st place answer).place
placed st at_head (told_heads heads) is = stop_placed 0 (ether_type_of st.frame.bytes) heads
placed st at_head told_no_filter is = tt
placed st at_head (told_actions actions) is = tt
placed st at_head (told_params params) is = tt
placed st (at_mask head [] tables) answer is = absurd is
placed st (at_mask head (mask ∷ masks) tables) told_no_filter is = masks_placed head masks tables (first_stop head.chain (ether_type_of st.frame.bytes) tables) (stop_placed head.chain (ether_type_of st.frame.bytes) tables)
placed st (at_mask head (mask ∷ masks) tables) (told_actions actions) is = found_placed st head tables actions
placed st (at_mask head (mask ∷ masks) tables) (told_heads heads) is = tt
placed st (at_mask head (mask ∷ masks) tables) (told_params params) is = tt
placed st (at_action head actions position jumps tables) (told_params params) is =
    action_placed (ran st (action_at actions position) params) head actions tables (stand_after (length actions) position jumps (control_given params st.frame))
placed st (at_action head actions position jumps tables) (told_heads heads) is = tt
placed st (at_action head actions position jumps tables) told_no_filter is = tt
placed st (at_action head actions position jumps tables) (told_actions others) is = tt
placed st (ended verdict) answer is = tt

-- ---- between visits
record IsGood (st : Standing) : Type 0 where
  pub place : IsPlaced st.place
  pub few : st.visits ≤ VISITS_MAX

less_than : (n : ℕ) → nat_lt n VISITS_MAX ≡ true → n + 1 ≤ VISITS_MAX
less_than n less = grind (arith, nat_tests, less)

goes_good : (st : Standing) (question : Question) (answer : Answer) → IsGood st → question_of st ≡ Some question → IsGood (after st answer)
goes_good st question answer good asks =
    let more = one_more st answer in
    let few = less_than st.visits (asked_at st question asks).0 in
    record { place = placed st st.place answer good.place; few = omega (arith, more, few) }

spent : (n : ℕ) → nat_lt n VISITS_MAX ≡ false → n ≤ VISITS_MAX → (n == VISITS_MAX) ≡ true
spent n reached within = grind (arith, nat_tests, reached, within)

HasOutcome : Standing → Type 0
HasOutcome st = (walk : WalkOutcome) × (outcome_of st ≡ Some walk)

none_asked : (b : Bool) (o : Option Question) (question : Question) → o ≡ Some question → cond b o None ≡ None → b ≡ false
none_asked true o question is none = absurd (cc (sym is ∙ none))
none_asked false o question is none = refl

drops : (b : Bool) (walk : WalkOutcome) → b ≡ true → (if b then Some walk else None) ≡ Some walk
drops true walk is = refl
drops false walk is = absurd (cc is)

-- a walk that asks nothing more has an outcome
at_end : (st : Standing) (place : Place) → st.visits ≤ VISITS_MAX → IsPlaced place → cond (nat_lt st.visits VISITS_MAX) (question_at st place) None ≡ None → (walk : WalkOutcome) × (outcome_at place st ≡ Some walk)
at_end st at_head few is none = (outcome_with verdicts.Drop st, drops (st.visits == VISITS_MAX) (outcome_with verdicts.Drop st) (spent st.visits (none_asked (nat_lt st.visits VISITS_MAX) (question_at st at_head) _ refl none) few))
at_end st (at_mask head [] tables) few is none = absurd is
at_end st (at_mask head (mask ∷ masks) tables) few is none =
    (outcome_with verdicts.Drop st, drops (st.visits == VISITS_MAX) (outcome_with verdicts.Drop st) (spent st.visits (none_asked (nat_lt st.visits VISITS_MAX) (question_at st (at_mask head (mask ∷ masks) tables)) _ refl none) few))
at_end st (at_action head actions position jumps tables) few is none =
    (outcome_with verdicts.Drop st, drops (st.visits == VISITS_MAX) (outcome_with verdicts.Drop st) (spent st.visits (none_asked (nat_lt st.visits VISITS_MAX) (question_at st (at_action head actions position jumps tables)) _ refl none) few))
at_end st (ended verdict) few is none = (outcome_with verdict st, refl)

-- ---- the function says what the relation says
module _ (journal : List Edit) where
  states : ℕ → State
  states point = state_at point journal

  pub record IsWalkedTo (before : List Visit) (st : Standing) (points : List ℕ) (end : Standing) : Type 0 where
    pub walk : WalkOutcome
    pub walks : IsWalk (IsVisited (λ point. state_at point journal)) before st points (before ++ visits_over (answers_of journal) st points) walk
    pub outcome : outcome_of end ≡ Some walk

  one_there : (end st : Standing) → ◌≡◌ {A = Option Standing} (Some end) (Some st) → end ≡ st
  one_there end st is = cc is

  visited_one : (before : List Visit) (st end : Standing) (point : ℕ) (points : List ℕ) (o : Option Question) (a : Option Answer) → question_of st ≡ o → answered_at (answers_of journal) point o ≡ a
      → ((answer : Answer) (question : Question) → question_of st ≡ Some question → stands_after (answers_of journal) (after st answer) points ≡ Some end
      → IsWalkedTo (before ++ (record { question = question; point = point } ∷ [])) (after st answer) points end)
      → option_and_then (λ next. stands_after (answers_of journal) next points) (moved_by st a) ≡ Some end → IsWalkedTo before st (point ∷ points) end
  visited_one before st end point points None (Some answer) asks told rest stands = absurd (cc told)
  visited_one before st end point points o None asks told rest stands = absurd (cc stands)
  visited_one before st end point points (Some question) (Some answer) asks told rest stands =
      let visit : Visit = record { question = question; point = point } in
      let later = rest answer question asks stands in
      let list : visits_over (answers_of journal) st (point ∷ points) ≡ visit ∷ visits_over (answers_of journal) (after st answer) points =
      ap (λ (o : Option Question). visit_more o (answered_at (answers_of journal) point o) point (λ a. visits_over (answers_of journal) (after st a) points)) asks
      ∙ ap (λ (a : Option Answer). visit_more (Some question) a point (λ a. visits_over (answers_of journal) (after st a) points)) told in
      let moved_on : before ++ visits_over (answers_of journal) st (point ∷ points) ≡ (before ++ (visit ∷ [])) ++ visits_over (answers_of journal) (after st answer) points =
      ap (λ (vs : List Visit). before ++ vs) list ∙ sym (append_assoc before (visit ∷ []) (visits_over (answers_of journal) (after st answer) points)) in
      record {
        walk = later.walk;
        walks = (
          question,
          answer,
          before ++ (visit ∷ []),
          asks,
          (told, refl),
          subst (λ (vs : List Visit). IsWalk (IsVisited (λ p. state_at p journal)) (before ++ (visit ∷ [])) (after st answer) points vs later.walk) (sym moved_on) later.walks,
        );
        outcome = later.outcome;
      }

  same_told : (point : ℕ) (o : Option Question) → answered_at (answers_of journal) point o ≡ answered_at (answers_of journal) point o
  same_told point None = refl
  same_told point (Some question) = refl

  walked_from : (before : List Visit) (st end : Standing) (points : List ℕ) → IsGood st → stands_after (answers_of journal) st points ≡ Some end → question_of end ≡ None → IsWalkedTo before st points end
  walked_from before st end [] good stands over_ =
      let same : st ≡ end = one_there st end stands in
      let here : question_of st ≡ None = ap question_of same ∙ over_ in
      let last = at_end st st.place good.few good.place here in
      record { walk = last.0; walks = (append-nil before, last.1); outcome = ap outcome_of (sym same) ∙ last.1 }
  walked_from before st end (point ∷ points) good stands over_ =
      visited_one before st end point points (question_of st) (answered_at (answers_of journal) point (question_of st)) refl refl
      (λ answer question asks rest. walked_from (before ++ (record { question = question; point = point } ∷ [])) (after st answer) end points (goes_good st question answer good asks) rest over_)
      (ap (λ (a : Option Answer). option_and_then (λ next. stands_after (answers_of journal) next points) (moved_by st a)) (sym (same_told point (question_of st))) ∙ stands)

  pub walked : (st end : Standing) (points : List ℕ) → st.visits ≡ 0 → st.place ≡ at_head → stands_after (answers_of journal) st points ≡ Some end → question_of end ≡ None → IsWalkedTo [] st points end
  walked st end points none head stands over_ = walked_from [] st end points (record { place = subst IsPlaced (sym head) tt; few = omega (arith, none) }) stands over_

  -- and back
  pub record HasStood (before : List Visit) (st : Standing) (points : List ℕ) (now : List Visit) (walk : WalkOutcome) : Type 0 where
    pub end : Standing
    pub stands : stands_after (answers_of journal) st points ≡ Some end
    pub over : question_of end ≡ None
    pub outcome : outcome_of end ≡ Some walk
    pub visits : now ≡ before ++ visits_over (answers_of journal) st points

  no_question : (st : Standing) (walk : WalkOutcome) (o : Option Question) → question_of st ≡ o → outcome_of st ≡ Some walk → o ≡ None
  no_question st walk None asks ends = refl
  no_question st walk (Some question) asks ends = absurd (asks_or_ended st question walk asks ends)

  pub stood : (before now : List Visit) (st : Standing) (points : List ℕ) (walk : WalkOutcome) → IsWalk (IsVisited (λ p. state_at p journal)) before st points now walk → HasStood before st points now walk
  stood before now st [] walk (same, ends) = record { end = st; stands = refl; over = no_question st walk (question_of st) refl ends; outcome = ends; visits = same ∙ sym (append-nil before) }
  stood before now st (point ∷ points) walk (question, answer, between, asks, (told, next), rest) =
      let visit : Visit = record { question = question; point = point } in
      let later = stood between now (after st answer) points walk rest in
      let list : visits_over (answers_of journal) st (point ∷ points) ≡ visit ∷ visits_over (answers_of journal) (after st answer) points =
      ap (λ (o : Option Question). visit_more o (answered_at (answers_of journal) point o) point (λ a. visits_over (answers_of journal) (after st a) points)) asks
      ∙ ap (λ (a : Option Answer). visit_more (Some question) a point (λ a. visits_over (answers_of journal) (after st a) points)) told in
      record {
        end = later.end;
        stands = ap (λ (o : Option Question). option_and_then (λ next. stands_after (answers_of journal) next points) (moved_by st (answered_at (answers_of journal) point o))) asks
            ∙ ap (λ (a : Option Answer). option_and_then (λ next. stands_after (answers_of journal) next points) (moved_by st a)) told ∙ later.stands;
        over = later.over;
        outcome = later.outcome;
        visits = later.visits ∙ ap (λ (vs : List Visit). vs ++ visits_over (answers_of journal) (after st answer) points) next
            ∙ append_assoc before (visit ∷ []) (visits_over (answers_of journal) (after st answer) points) ∙ ap (λ (vs : List Visit). before ++ vs) (sym list);
      }
