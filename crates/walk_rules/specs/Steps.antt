-- The walk of a packet: where it stands, what it asks there, and where it stands after the answer (after the
-- kernel's tcf_classify and tcf_action_exec, net/sched/cls_api.c and act_api.c; the limit of visits and the
-- order of masks are this project's own).
use Rattle.std.specs.Prelude.{ℕ, Bool, true, ◌+◌, ◌-◌, ◌==◌, ◌&&◌, nat_lt, List, [], ◌∷◌, ◌++◌, length}
use Rattle.std.specs.Prelude.{get_or, Option, Some, None, if◌then◌else◌}
use Rattle.tc_base.specs.declared.hook.Hook.{Hook}
use Rattle.tc_base.specs.declared.hook.Proto.{Proto}
use Rattle.tc_base.specs.declared.hook.Proto.TheVariants as protocols
use Rattle.frame_edit.specs.EditedFrame.{EditedFrame, loaded_frame}
use Rattle.frame_edit.specs.Tags.{ether_type_of}
use Rattle.flow_dissect.specs.Fields.{frame_values}
use Rattle.act_kinds.specs.declared.params.Params.{Params}
use Rattle.act_kinds.specs.Acts.{acted_on, control_given}
use Rattle.act_list.specs.declared.limits.TheConstants.{JUMPS_MAX}
use Rattle.act_list.specs.declared.run.Ending.{Ending}
use Rattle.act_list.specs.declared.run.Ending.TheVariants as endings
use Rattle.act_list.specs.Run.{Stand, on, over, stand_after}
use Rattle.walk_rules.specs.declared.limits.TheConstants.{VISITS_MAX, RESTARTS_MAX}
use Rattle.walk_rules.specs.declared.verdict.Verdict.{Verdict}
use Rattle.walk_rules.specs.declared.verdict.Verdict.TheVariants as verdicts
use Rattle.walk_rules.specs.Questions.{Head, Question, heads_of, filter_of, params_of, Answer, told_heads}
use Rattle.walk_rules.specs.Questions.{told_no_filter, told_actions, told_params}

-- one execution of an action: its serial, and the frame's length before it
pub record Execution : Type 0 where
  pub serial : ℕ
  pub length : ℕ

-- Where a walk stands: before the head; before a look-up in the first of some masks of a table; before the
-- action at a position of a list, with so many jumps left; or at its end. The tables are those behind the one
-- at which it stands.
pub data Place : Type 0 where
  at_head : Place
  at_mask : (head : Head) (masks : List ℕ) (tables : List Head) → Place
  at_action : (head : Head) (actions : List ℕ) (position jumps : ℕ) (tables : List Head) → Place
  ended : Verdict → Place

-- a walk on its way: the frame as it is, the tables that the head told, the restarts left, the visits made,
-- what ran on the frame
pub record Standing : Type 0 where
  pub hook : Hook
  pub frame : EditedFrame
  pub heads : List Head
  pub restarts : ℕ
  pub visits : ℕ
  pub executed : List Execution
  pub place : Place

-- a walk of these bytes that has not begun
abbrev pub begun : Hook → List ℕ → Standing
begun hook bytes = record {
  hook = hook;
  frame = loaded_frame bytes;
  heads = [];
  restarts = RESTARTS_MAX;
  visits = 0;
  executed = [];
  place = at_head;
}

-- ---- tables
abbrev pub admits : Proto → ℕ → Bool
admits protocols.All ether = true
admits (protocols.Ether e) ether = e == ether

-- the table is in the chain, and takes frames of that EtherType
abbrev pub tries : ℕ → ℕ → Head → Bool
tries chain ether head = head.chain == chain && admits head.protocol ether

abbrev pub masks_or : Head → List ℕ → List Head → Place → Place
masks_or head [] tables next = next
masks_or head (mask ∷ masks) tables next = at_mask head (mask ∷ masks) tables

-- the first mask of the chain's tables that are tried; a chain without a further one passes the packet
abbrev pub first_stop : ℕ → ℕ → List Head → Place
first_stop chain ether [] = ended verdicts.Pass
first_stop chain ether (head ∷ tables) =
    if tries chain ether head then masks_or head head.masks tables (first_stop chain ether tables)
    else first_stop chain ether tables

-- ---- what is asked
abbrev pub action_at : List ℕ → ℕ → ℕ
action_at actions position = get_or actions position 0

abbrev pub question_at : Standing → Place → Option Question
question_at st at_head = Some (heads_of st.hook)
question_at st (at_mask head [] tables) = None
question_at st (at_mask head (mask ∷ masks) tables) =
    Some (filter_of head.serial mask (frame_values st.frame.bytes))
question_at st (at_action head actions position jumps tables) = Some (params_of (action_at actions position))
question_at st (ended verdict) = None

-- the next question of a walk; none at its end, nor once all visits were made
abbrev pub question_of : Standing → Option Question
question_of st = if nat_lt st.visits VISITS_MAX then question_at st st.place else None

-- ---- what follows an answer
-- one visit more, and then at that place
abbrev pub moved : Standing → Place → Standing
moved st place = record st { visits = st.visits + 1; place = place }

-- from the first table of a chain again, where a restart is left
abbrev pub restarted : Standing → ℕ → Standing
restarted st chain =
    if st.restarts == 0 then moved st (ended verdicts.Drop)
    else record (moved st
    (first_stop chain (ether_type_of st.frame.bytes) st.heads)) { restarts = st.restarts - 1 }

-- after a list of a table's filter has ended
abbrev pub after_list : Standing → Head → List Head → Ending → Standing
after_list st head tables endings.Accept = moved st (ended verdicts.Pass)
after_list st head tables endings.Pipe = moved st (ended verdicts.Pass)
after_list st head tables endings.Shot = moved st (ended verdicts.Drop)
after_list st head tables endings.Unspec =
    moved st (first_stop head.chain (ether_type_of st.frame.bytes) tables)
after_list st head tables endings.Reclassify = restarted st 0
after_list st head tables (endings.Goto chain) = restarted st chain

abbrev pub after_action : Standing → Head → List ℕ → List Head → Stand → Standing
after_action st head actions tables (on position jumps) =
    moved st (at_action head actions position jumps tables)
after_action st head actions tables (over ending) = after_list st head tables ending

-- an action that ran: it is recorded with the length that the frame had, and has done its work on the frame
abbrev pub ran : Standing → ℕ → Params → Standing
ran st serial params = record st {
  frame = acted_on params st.frame;
  executed = st.executed ++ (record { serial = serial; length = length st.frame.bytes } ∷ []);
}

-- a filter was found: an empty list passes the packet
abbrev pub after_found : Standing → Head → List Head → List ℕ → Standing
after_found st head tables [] = moved st (ended verdicts.Pass)
after_found st head tables (action ∷ actions) = moved st (at_action head (action ∷ actions) 0 JUMPS_MAX tables)

-- an answer of another kind than the question's is a visit that leads nowhere
abbrev pub after_at : Standing → Place → Answer → Standing
after_at st at_head (told_heads heads) = record (moved st
    (first_stop 0 (ether_type_of st.frame.bytes) heads)) { heads = heads }
after_at st (at_mask head (mask ∷ masks) tables) told_no_filter =
    moved st (masks_or head masks tables (first_stop head.chain (ether_type_of st.frame.bytes) tables))
after_at st (at_mask head (mask ∷ masks) tables) (told_actions actions) = after_found st head tables actions
after_at st (at_action head actions position jumps tables) (told_params params) =
    after_action (ran st (action_at actions position) params) head actions tables
    (stand_after (length actions) position jumps (control_given params st.frame))
after_at st place answer = moved st place

-- where a walk stands after the answer to its question
abbrev pub after : Standing → Answer → Standing
after st answer = after_at st st.place answer
