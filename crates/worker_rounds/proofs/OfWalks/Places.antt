-- Where a walk stands once it was told its tables: it never asks for tables again.
use Rattle.std.proofs.Common.{◌≡◌, ◌≢◌, ◌∙◌, ℕ, ◌==◌, Bool, true, false, List, [], ◌∷◌, Some, length, sym, ap}
use Rattle.std.specs.Prelude.{if◌then◌else◌}
use Rattle.std.proofs.lemmas.Option.{none-some, same_Some}
use Rattle.tc_base.specs.declared.hook.Hook.{Hook}
use Rattle.frame_edit.specs.Tags.{ether_type_of}
use Rattle.act_kinds.specs.Acts.{control_given}
use Rattle.act_list.specs.declared.run.Ending.{Ending}
use Rattle.act_list.specs.declared.run.Ending.TheVariants as endings
use Rattle.act_list.specs.Run.{Stand, on, over, stand_after}
use Rattle.filter_state.specs.States.{State}
use Rattle.walk_rules.specs.declared.verdict.Verdict.TheVariants as verdicts
use Rattle.walk_rules.specs.Questions.{Head, Question, heads_of, Answer, told_heads, told_no_filter, told_actions, told_params}
use Rattle.walk_rules.specs.Answers.{answer_of}
use Rattle.walk_rules.specs.Steps.{Place, at_head, at_mask, at_action, ended, Standing, begun, tries, masks_or, first_stop, question_at, question_of, moved, restarted, after_list, after_action, ran, action_at, after_found, after_at, after}
use Rattle.walk_rules.proofs.Agreeing.{asked_at}

abbrev pub IsPastHead : Place → Type 0
IsPastHead at_head = ⊥
IsPastHead (at_mask head masks tables) = Unit {0}
IsPastHead (at_action head actions position jumps tables) = Unit {0}
IsPastHead (ended verdict) = Unit {0}

either : (b : Bool) (one other : Place) → IsPastHead one → IsPastHead other → IsPastHead (if b then one else other)
either true one other is or = is
either false one other is or = or

either_way : (b : Bool) (one other : Standing) → IsPastHead one.place → IsPastHead other.place → IsPastHead (if b then one else other).place
either_way true one other is or = is
either_way false one other is or = or

masks_past : (head : Head) (masks : List ℕ) (tables : List Head) (next : Place) → IsPastHead next → IsPastHead (masks_or head masks tables next)
masks_past head [] tables next past = past
masks_past head (mask ∷ masks) tables next past = tt

stop_past : (chain ether : ℕ) (tables : List Head) → IsPastHead (first_stop chain ether tables)
stop_past chain ether [] = tt
stop_past chain ether (head ∷ tables) = either (tries chain ether head) (masks_or head head.masks tables (first_stop chain ether tables)) (first_stop chain ether tables)
    (masks_past head head.masks tables (first_stop chain ether tables) (stop_past chain ether tables)) (stop_past chain ether tables)

restart_past : (st : Standing) (chain : ℕ) → IsPastHead (restarted st chain).place
restart_past st chain = either_way (st.restarts == 0) (moved st (ended verdicts.Drop)) (record (moved st (first_stop chain (ether_type_of st.frame.bytes) st.heads)) { restarts = _ }) tt
    (stop_past chain (ether_type_of st.frame.bytes) st.heads)

list_past : (st : Standing) (head : Head) (tables : List Head) (ending : Ending) → IsPastHead (after_list st head tables ending).place
list_past st head tables endings.Accept = tt
list_past st head tables endings.Pipe = tt
list_past st head tables endings.Shot = tt
list_past st head tables endings.Unspec = stop_past head.chain (ether_type_of st.frame.bytes) tables
list_past st head tables endings.Reclassify = restart_past st 0
list_past st head tables (endings.Goto chain) = restart_past st chain

action_past : (st : Standing) (head : Head) (actions : List ℕ) (tables : List Head) (stand : Stand) → IsPastHead (after_action st head actions tables stand).place
action_past st head actions tables (on position jumps) = tt
action_past st head actions tables (over ending) = list_past st head tables ending

found_past : (st : Standing) (head : Head) (tables : List Head) (actions : List ℕ) → IsPastHead (after_found st head tables actions).place
found_past st head tables [] = tt
found_past st head tables (action ∷ actions) = tt

past_at : (st : Standing) (place : Place) (answer : Answer) → IsPastHead place → IsPastHead (after_at st place answer).place
past_at st at_head answer past = absurd past
past_at st (at_mask head [] tables) answer past = tt
past_at st (at_mask head (mask ∷ masks) tables) (told_heads heads) past = tt
past_at st (at_mask head (mask ∷ masks) tables) told_no_filter past = masks_past head masks tables (first_stop head.chain (ether_type_of st.frame.bytes) tables) (stop_past head.chain (ether_type_of st.frame.bytes) tables)
past_at st (at_mask head (mask ∷ masks) tables) (told_actions actions) past = found_past st head tables actions
past_at st (at_mask head (mask ∷ masks) tables) (told_params params) past = tt
past_at st (at_action head actions position jumps tables) (told_heads heads) past = tt
past_at st (at_action head actions position jumps tables) told_no_filter past = tt
past_at st (at_action head actions position jumps tables) (told_actions found) past = tt
past_at st (at_action head actions position jumps tables) (told_params params) past =
    action_past (ran st (action_at actions position) params) head actions tables (stand_after (length actions) position jumps (control_given params st.frame))
past_at st (ended verdict) answer past = tt

pub still_past : (st : Standing) (answer : Answer) → IsPastHead st.place → IsPastHead (after st answer).place
still_past st answer past = past_at st st.place answer past

no_head_at : (st : Standing) (place : Place) (question : Question) → IsPastHead place → question_at st place ≡ Some question → (hook : Hook) → question ≢ heads_of hook
no_head_at st at_head question past asks hook = absurd past
no_head_at st (at_mask head [] tables) question past asks hook = absurd (none-some question asks)
no_head_at st (at_mask head (mask ∷ masks) tables) question past asks hook = λ is. absurd (cc (asks, is))
no_head_at st (at_action head actions position jumps tables) question past asks hook = λ is. absurd (cc (asks, is))
no_head_at st (ended verdict) question past asks hook = absurd (none-some question asks)

pub asks_no_head : (st : Standing) (question : Question) → IsPastHead st.place → question_of st ≡ Some question → (hook : Hook) → question ≢ heads_of hook
asks_no_head st question past asks = no_head_at st st.place question past (asked_at st question asks).1

-- ---- the first visit
pub first_asked : (hook : Hook) (bytes : List ℕ) (question : Question) → question_of (begun hook bytes) ≡ Some question → question ≡ heads_of hook
first_asked hook bytes question asks = sym (same_Some (heads_of hook) question (asked_at (begun hook bytes) question asks).1)

pub past_first : (s : State) (hook : Hook) (bytes : List ℕ) (question : Question) (answer : Answer) → question ≡ heads_of hook → answer_of s question ≡ Some answer → IsPastHead (after (begun hook bytes) answer).place
past_first s hook bytes question answer is answered = told answer (ap (answer_of s) (sym is) ∙ answered)
  where
    told : (given : Answer) → answer_of s (heads_of hook) ≡ Some given → IsPastHead (after (begun hook bytes) given).place
    told (told_heads heads) same = stop_past 0 (ether_type_of (begun hook bytes).frame.bytes) heads
    told told_no_filter same = absurd (cc same)
    told (told_actions actions) same = absurd (cc same)
    told (told_params params) same = absurd (cc same)
