-- What is told of a visit by what is kept of it is what is told of the step.
use Rattle.std.proofs.Common.{◌≡◌, ◌∙◌, ℕ, ◌+◌, Bool, true, false, List, [], ◌∷◌, ◌++◌, length, append_assoc, Option, Some, None, refl, sym, ap, ap₂, subst}
use Rattle.std.specs.Prelude.{◌==◌, nat_lt, not, cond, if◌then◌else◌, codes}
use Rattle.std.specs.Fmt.{decimal}
use Rattle.frame_edit.specs.EditedFrame.{EditedFrame}
use Rattle.flow_dissect.specs.Fields.{frame_values}
use Rattle.act_kinds.specs.declared.params.Params.{Params}
use Rattle.act_kinds.specs.Acts.{acted_on, control_given}
use Rattle.act_list.specs.declared.run.Ending.{Ending}
use Rattle.act_list.specs.declared.run.Ending.TheVariants as endings
use Rattle.act_list.specs.Run.{Stand, on, over, stand_after}
use Rattle.tc_print.specs.ActionWords.{params_words, index_words}
use Rattle.walk_rules.specs.declared.limits.TheConstants.{VISITS_MAX}
use Rattle.walk_rules.specs.Questions.{Head, Question, Answer, told_heads, told_no_filter, told_actions, told_params}
use Rattle.walk_rules.specs.Steps.{Place, at_head, at_mask, at_action, ended, Standing, action_at, question_at, question_of, after, after_at, after_action, after_list, after_found, ran}
use Rattle.walk_rules.proofs.Agreeing.{one_more}
use Rattle.walk_steps.specs.declared.stand.Stand.{Stand as StandTold}
use Rattle.walk_steps.specs.Stands.{stand_of}
use Rattle.point_walks.specs.declared.answered.Answered.{Answered}
use Rattle.point_walks.specs.Answereds.{answered_from}
use Rattle.trace_lines.specs.declared.told.Told.{Told}
use Rattle.trace_lines.specs.declared.before.Before.{Before}
use Rattle.trace_lines.specs.Names.{Names}
use Rattle.std.proofs.lemmas.Bool.{false≢true}
use Rattle.trace_lines.specs.Lines.{match_origin, visit_words, point_words, visit_line, run_lines, restart_lines, spent_lines, visit_lines, decided_at, match_words, room_words, length_words, maker_words, finds_no_room, restart_chain, needs_visit}
use Rattle.trace_lines.specs.Parts.{before_of, no_room, acted_words, answer_words, effect_words, origin_in, edit_of, chain_in, control_in, is_over, spent_lines_at, made_lines}
use Rattle.trace_lines.proofs.Rooms.{room_is, chain_is}
use Rattle.trace_lines.proofs.Stands.{over_is}

-- ---- the frame behind a visit
one_frame : (f : EditedFrame) (b : Bool) (one other : Standing) → one.frame ≡ f → other.frame ≡ f → (cond b one other).frame ≡ f
one_frame f true one other e g = e
one_frame f false one other e g = g

list_frame : (st : Standing) (head : Head) (tables : List Head) (ending : Ending) → (after_list st head tables ending).frame ≡ st.frame
list_frame st head tables endings.Accept = refl
list_frame st head tables endings.Pipe = refl
list_frame st head tables endings.Shot = refl
list_frame st head tables endings.Unspec = refl
list_frame st head tables endings.Reclassify = one_frame st.frame (st.restarts == 0) _ _ refl refl
list_frame st head tables (endings.Goto chain) = one_frame st.frame (st.restarts == 0) _ _ refl refl

action_frame : (st : Standing) (head : Head) (actions : List ℕ) (tables : List Head) (stand : Stand) → (after_action st head actions tables stand).frame ≡ st.frame
action_frame st head actions tables (on position jumps) = refl
action_frame st head actions tables (over ending) = list_frame st head tables ending

found_frame : (st : Standing) (head : Head) (tables : List Head) (actions : List ℕ) → (after_found st head tables actions).frame ≡ st.frame
found_frame st head tables [] = refl
found_frame st head tables (action ∷ actions) = refl

-- behind an action it is what the action made of it
acted_frame : (st : Standing) (head : Head) (actions : List ℕ) (position jumps : ℕ) (tables : List Head) (given : Params)
    → (after_at st (at_action head actions position jumps tables) (told_params given)).frame ≡ acted_on given st.frame
acted_frame st head actions position jumps tables given =
    action_frame (ran st (action_at actions position) given) head actions tables (stand_after (length actions) position jumps (control_given given st.frame))

-- ---- the words of a visit
-- where an answer is told as something, these are its words
abbrev TellsWords : Names → Before → ℕ → List ℕ → ℕ → Option Answered → List (List ℕ) → Type 0
TellsWords names before point values after None words = Unit {0}
TellsWords names before point values after (Some answered) words = answer_words names before point values after answered ≡ words

effect_is : (given : Params) (frame : EditedFrame) (rest : List (List ℕ)) → effect_words given (length frame.bytes) (length (acted_on given frame).bytes) ++ rest
    ≡ room_words (finds_no_room given frame) ++ (length_words (length frame.bytes) (length (acted_on given frame).bytes) ++ rest)
effect_is given frame rest =
    append_assoc (room_words (no_room given (length frame.bytes) (length (acted_on given frame).bytes))) (length_words (length frame.bytes) (length (acted_on given frame).bytes)) rest
    ∙ ap (λ b. room_words b ++ (length_words (length frame.bytes) (length (acted_on given frame).bytes) ++ rest)) (room_is given frame)

tells_words : (names : Names) (point : ℕ) (st : Standing) (place : Place) (answer : Answer)
    → TellsWords names (record (before_of st) { stand = stand_of place }) point (frame_values (after_at st place answer).frame.bytes) (length (after_at st place answer).frame.bytes)
    (answered_from (question_at st place) answer) (visit_words names point st place answer)
tells_words names point st at_head (told_heads heads) = refl
tells_words names point st at_head told_no_filter = tt
tells_words names point st at_head (told_actions actions) = tt
tells_words names point st at_head (told_params given) = tt
tells_words names point st (at_mask head [] tables) answer = tt
tells_words names point st (at_mask head (mask ∷ masks) tables) (told_heads heads) = tt
tells_words names point st (at_mask head (mask ∷ masks) tables) told_no_filter = refl
tells_words names point st (at_mask head (mask ∷ masks) tables) (told_actions actions) =
    ap (λ (frame : EditedFrame). match_words names point mask (frame_values frame.bytes)) (found_frame st head tables actions)
tells_words names point st (at_mask head (mask ∷ masks) tables) (told_params given) = tt
tells_words names point st (at_action head actions position jumps tables) (told_heads heads) = tt
tells_words names point st (at_action head actions position jumps tables) told_no_filter = tt
tells_words names point st (at_action head actions position jumps tables) (told_actions others) = tt
tells_words names point st (at_action head actions position jumps tables) (told_params given) =
    let serial : ℕ = action_at actions position in
    let before : Before = record (before_of st) { stand = stand_of (at_action head actions position jumps tables) } in
    ap (λ (frame : EditedFrame). acted_words names before point (length frame.bytes) serial given) (acted_frame st head actions position jumps tables given)
    ∙ ap (λ (ws : List (List ℕ)). codes "run" ∷ decimal position ∷ codes "of" ∷ decimal (length actions) ∷ codes "serial" ∷ decimal serial
    ∷ (params_words given ++ (index_words (Some (names.index serial)) ++ ws))) (effect_is given st.frame (maker_words (names.action point serial)))
tells_words names point st (ended verdict) answer = tt

-- ---- behind a visit
abbrev TellsRestart : Told → ℕ → ℕ → ℕ → Option Answered → List (List ℕ) → Type 0
TellsRestart told restarts before after None lines = Unit {0}
TellsRestart told restarts before after (Some answered) lines = restart_lines told restarts (chain_in before after answered) ≡ lines

tells_restart : (told : Told) (st : Standing) (place : Place) (answer : Answer)
    → TellsRestart told st.restarts (length st.frame.bytes) (length (after_at st place answer).frame.bytes) (answered_from (question_at st place) answer) (run_lines told st place answer)
tells_restart told st at_head (told_heads heads) = refl
tells_restart told st at_head told_no_filter = tt
tells_restart told st at_head (told_actions actions) = tt
tells_restart told st at_head (told_params given) = tt
tells_restart told st (at_mask head [] tables) answer = tt
tells_restart told st (at_mask head (mask ∷ masks) tables) (told_heads heads) = tt
tells_restart told st (at_mask head (mask ∷ masks) tables) told_no_filter = refl
tells_restart told st (at_mask head (mask ∷ masks) tables) (told_actions actions) = refl
tells_restart told st (at_mask head (mask ∷ masks) tables) (told_params given) = tt
tells_restart told st (at_action head actions position jumps tables) (told_heads heads) = tt
tells_restart told st (at_action head actions position jumps tables) told_no_filter = tt
tells_restart told st (at_action head actions position jumps tables) (told_actions others) = tt
tells_restart told st (at_action head actions position jumps tables) (told_params given) =
    ap (restart_lines told st.restarts)
    (ap (λ (frame : EditedFrame). if no_room given (length st.frame.bytes) (length frame.bytes) then None else restart_chain (control_in given))
    (acted_frame st head actions position jumps tables given)
    ∙ ap (λ b. if b then None else restart_chain (control_in given)) (room_is given st.frame) ∙ chain_is given st.frame)
tells_restart told st (ended verdict) answer = tt

abbrev TellsEdit : Names → ℕ → List ℕ → Option Answered → Option ℕ → Type 0
TellsEdit names point values None edit = Unit {0}
TellsEdit names point values (Some answered) edit = edit_of (origin_in names point values answered) ≡ edit

tells_edit : (names : Names) (point : ℕ) (st : Standing) (place : Place) (answer : Answer)
    → TellsEdit names point (frame_values (after_at st place answer).frame.bytes) (answered_from (question_at st place) answer) (decided_at names point st place answer)
tells_edit names point st at_head (told_heads heads) = refl
tells_edit names point st at_head told_no_filter = tt
tells_edit names point st at_head (told_actions actions) = tt
tells_edit names point st at_head (told_params given) = tt
tells_edit names point st (at_mask head [] tables) answer = tt
tells_edit names point st (at_mask head (mask ∷ masks) tables) (told_heads heads) = tt
tells_edit names point st (at_mask head (mask ∷ masks) tables) told_no_filter = refl
tells_edit names point st (at_mask head (mask ∷ masks) tables) (told_actions actions) =
    ap (λ (frame : EditedFrame). edit_of (match_origin names point mask (frame_values frame.bytes))) (found_frame st head tables actions)
tells_edit names point st (at_mask head (mask ∷ masks) tables) (told_params given) = tt
tells_edit names point st (at_action head actions position jumps tables) (told_heads heads) = tt
tells_edit names point st (at_action head actions position jumps tables) told_no_filter = tt
tells_edit names point st (at_action head actions position jumps tables) (told_actions others) = tt
tells_edit names point st (at_action head actions position jumps tables) (told_params given) = refl
tells_edit names point st (ended verdict) answer = tt

-- ---- where no visit is left
spent_by : (told : Told) (visits : ℕ) (over needs : Bool) (lines : List (List ℕ)) → over ≡ not needs
    → (if visits == VISITS_MAX then (if over then [] else lines) else []) ≡ (if visits == VISITS_MAX then (if needs then lines else []) else [])
spent_by told visits true true lines e = absurd (false≢true (sym e))
spent_by told visits true false lines e = refl
spent_by told visits false true lines e = refl
spent_by told visits false false lines e = absurd (false≢true e)

spent_is : (told : Told) (st : Standing) (answer : Answer)
    → spent_lines_at told (st.visits + 1) (stand_of (after st answer).place) ≡ spent_lines told (after st answer)
spent_is told st answer =
    ap (λ visits. spent_lines_at told visits (stand_of (after st answer).place)) (sym (one_more st answer))
    ∙ spent_by told (after st answer).visits (is_over (stand_of (after st answer).place)) (needs_visit (after st answer).place) _ (over_is (after st answer).place)

-- ---- a question is asked
asked_by : (left : Bool) (question : Option Question) (answer : Answer) (answered : Answered)
    → answered_from (if left then question else None) answer ≡ Some answered → answered_from question answer ≡ Some answered
asked_by true question answer answered told = told
asked_by false question answer answered told = cc told

asked_at : (st : Standing) (answer : Answer) (answered : Answered) → answered_from (question_of st) answer ≡ Some answered
    → answered_from (question_at st st.place) answer ≡ Some answered
asked_at st answer answered told = asked_by (nat_lt st.visits VISITS_MAX) (question_at st st.place) answer answered told

-- THE LINES OF A VISIT by what is kept of it
pub visit_told : (told : Told) (names : Names) (st now : Standing) (answer : Answer) (answered : Answered) (point : ℕ) (before : Before) (values : List ℕ) (after_length : ℕ) (stand : StandTold)
    → before ≡ before_of st → answered_from (question_of st) answer ≡ Some answered → now ≡ after st answer
    → values ≡ frame_values now.frame.bytes → after_length ≡ length now.frame.bytes → stand ≡ stand_of now.place
    → made_lines told names before point values after_length answered stand
    ≡ visit_lines told names (record { before = st; answer = answer; point = point })
visit_told told names st now answer answered point before values after_length stand is asks goes fields size stands =
    let behind : Standing = after st answer in
    let asked = asked_at st answer answered asks in
    let words : answer_words names (before_of st) point (frame_values behind.frame.bytes) (length behind.frame.bytes) answered ≡ visit_words names point st st.place answer =
    subst (λ (a : Option Answered). TellsWords names (before_of st) point (frame_values behind.frame.bytes) (length behind.frame.bytes) a (visit_words names point st st.place answer))
    asked (tells_words names point st st.place answer) in
    let restart : restart_lines told st.restarts (chain_in (length st.frame.bytes) (length behind.frame.bytes) answered) ≡ run_lines told st st.place answer =
    subst (λ (a : Option Answered). TellsRestart told st.restarts (length st.frame.bytes) (length behind.frame.bytes) a (run_lines told st st.place answer))
    asked (tells_restart told st st.place answer) in
    let later : now ≡ behind = goes in
    ap (made_lines told names before point values after_length answered) stands
    ∙ ap (λ (b : Before). made_lines told names b point values after_length answered (stand_of now.place)) is
    ∙ ap (λ (vs : List ℕ). made_lines told names (before_of st) point vs after_length answered (stand_of now.place)) fields
    ∙ ap (λ n. made_lines told names (before_of st) point (frame_values now.frame.bytes) n answered (stand_of now.place)) size
    ∙ ap (λ (n : Standing). made_lines told names (before_of st) point (frame_values n.frame.bytes) (length n.frame.bytes) answered (stand_of n.place)) later
    ∙ ap (λ (ws : List (List ℕ)). visit_line told st (ws ++ point_words told.points point)
    ∷ (restart_lines told st.restarts (chain_in (length st.frame.bytes) (length behind.frame.bytes) answered)
    ++ spent_lines_at told (st.visits + 1) (stand_of behind.place))) words
    ∙ ap₂ (λ (a b : List (List ℕ)). visit_line told st (visit_words names point st st.place answer ++ point_words told.points point) ∷ (a ++ b)) restart (spent_is told st answer)

-- THE EDIT THAT DECIDED, by what is kept of a visit
pub edit_told : (names : Names) (st now : Standing) (answer : Answer) (answered : Answered) (point : ℕ) (values : List ℕ)
    → answered_from (question_of st) answer ≡ Some answered → now ≡ after st answer → values ≡ frame_values now.frame.bytes
    → edit_of (origin_in names point values answered) ≡ decided_at names point st st.place answer
edit_told names st now answer answered point values asks goes fields =
    ap (λ (vs : List ℕ). edit_of (origin_in names point vs answered)) (fields ∙ ap (λ (n : Standing). frame_values n.frame.bytes) goes)
    ∙ subst (λ (a : Option Answered). TellsEdit names point (frame_values (after st answer).frame.bytes) a (decided_at names point st st.place answer))
    (asked_at st answer answered asks) (tells_edit names point st st.place answer)
