-- What one walk runs is bounded: the rules of a walk allow so many visits, and frames of so many bytes.
use Rattle.std.proofs.Common.{◌≡◌, ◌∙◌, ℕ, ◌+◌, ◌-◌, ◌≤◌, ◌==◌, cond, Bool, true, false, List, [], ◌∷◌, ◌++◌, length, map, take, drop, Some, None, refl, sym, ap, subst, arith}
use Rattle.std.specs.Prelude.{◌&&◌, ◌||◌, nat_lt, nat_le, if◌then◌else◌}
use Rattle.std.proofs.lemmas.Bool.Decides.{nat_tests}
use Rattle.std.proofs.lemmas.List.{length-append, length-take, length-drop}
use Rattle.frame_edit.specs.EditedFrame.{EditedFrame, lacks_room, with_bytes}
use Rattle.frame_edit.specs.Tags.{has_ethernet, is_tagged, is_tag_type, two_at, control_of, control_with, tag_bytes, with_tag, without_tag, retagged, pushed}
use Rattle.filter_state.specs.Sound.{Each}
use Rattle.filter_state.specs.declared.edit.Edit.{Edit}
use Rattle.filter_state.specs.Journals.{state_at}
use Rattle.run_report.specs.declared.outcomes.Outcome.{Outcome}
use Rattle.lawful_runs.specs.Given.{Arrival}
use Rattle.lawful_runs.specs.Outcomes.{IsWalked}
use Rattle.act_kinds.specs.declared.params.VlanOp.{VlanOp}
use Rattle.act_kinds.specs.declared.params.VlanOp.TheVariants as ops
use Rattle.act_kinds.specs.declared.params.Params.{Params}
use Rattle.act_kinds.specs.declared.params.Params.TheVariants as params
use Rattle.act_kinds.specs.Acts.{retagged_by, acted_on, control_given}
use Rattle.act_list.specs.declared.run.Ending.{Ending}
use Rattle.act_list.specs.declared.run.Ending.TheVariants as endings
use Rattle.act_list.specs.Run.{Stand, on, over, stand_after}
use Rattle.walk_rules.specs.Questions.{Head, Question, Answer, told_heads, told_no_filter, told_actions, told_params}
use Rattle.walk_rules.specs.Steps.{Execution, Place, at_head, at_mask, at_action, ended, Standing, begun, after_list, after_action, ran, action_at, after_found, after_at, after}
use Rattle.walk_rules.specs.Walks.{Outcome as WalkOutcome, outcome_of, outcome_at, outcome_with, IsWalk}
use Rattle.walk_rules.specs.declared.verdict.Verdict.TheVariants as verdicts
use Rattle.walk_rules.proofs.Agreeing.{one_more, few_points}
use Rattle.walk_rules.specs.OfPoints.Points.{IsVisited}
use Rattle.walk_steps.specs.Told.{IsShortRun}

-- ---- an action keeps a frame within 262,144 bytes
tag_long : (tpid tci : ℕ) → length (tag_bytes tpid tci) ≡ 4
tag_long tpid tci = refl

around : (bytes tag : List ℕ) (at : ℕ) → length tag ≡ 4 → length (take 12 bytes ++ (tag ++ drop at bytes)) ≤ 12 + 4 + (length bytes - at)
around bytes tag at four =
    let first = length-append (take 12 bytes) (tag ++ drop at bytes) in
    let second = length-append tag (drop at bytes) in
    let front = length-take 12 bytes in
    let back = length-drop at bytes in
    omega (arith, first, second, front, back, four)

less_by : (a b : ℕ) → nat_le a b ≡ true → a ≤ b
less_by a b is = grind (arith, nat_tests, is)

no_less : (a b : ℕ) → nat_lt a b ≡ false → b ≤ a
no_less a b is = grind (arith, nat_tests, is)

both_true : (a b : Bool) → (a && b) ≡ true → b ≡ true
both_true true b is = is
both_true false b is = absurd (cc is)

pushed_by : (has : Bool) (bytes : List ℕ) (tpid tci : ℕ) → has_ethernet bytes ≡ has → length (if has then with_tag bytes tpid tci else bytes) ≤ length bytes + 4
pushed_by true bytes tpid tci is = let long = around bytes (tag_bytes tpid tci) 12 (tag_long tpid tci) in let enough = less_by 14 (length bytes) is in omega (arith, long, enough)
pushed_by false bytes tpid tci is = omega arith

popped_by : (tagged : Bool) (bytes : List ℕ) → length (if tagged then without_tag bytes else bytes) ≤ length bytes
popped_by true bytes =
    let first = length-append (take 12 bytes) (drop 16 bytes) in
    let front = length-take 12 bytes in
    let back = length-drop 16 bytes in
    omega (arith, first, front, back)
popped_by false bytes = omega arith

modified_by : (tagged : Bool) (bytes : List ℕ) (tpid tci : ℕ) → is_tagged bytes ≡ tagged → length (if tagged then retagged bytes tpid tci else bytes) ≤ length bytes
modified_by true bytes tpid tci is =
    let enough = less_by 18 (length bytes) (both_true (is_tag_type (two_at bytes 12)) (nat_le 18 (length bytes)) is) in
    let long = around bytes (tag_bytes tpid tci) 16 (tag_long tpid tci) in
    omega (arith, enough, long)
modified_by false bytes tpid tci is = omega arith

-- a push into a frame that lacks no room
lacks_none : (has a b : Bool) → (has && (a || b)) ≡ false → has ≡ true → b ≡ false
lacks_none true true b is there = absurd (cc is)
lacks_none true false b is there = is
lacks_none false a b is there = absurd (cc there)

push_within : (has : Bool) (frame : EditedFrame) (tpid tci : ℕ) → lacks_room frame ≡ false → has_ethernet frame.bytes ≡ has → length frame.bytes ≤ 262144 → length (if has then with_tag frame.bytes tpid tci else frame.bytes) ≤ 262144
push_within true frame tpid tci room is short =
    let none = lacks_none (has_ethernet frame.bytes) (nat_lt (frame.loaded + 64) (length frame.bytes + 4)) (nat_lt 262144 (length frame.bytes + 4)) room is in
    let most = no_less 262144 (length frame.bytes + 4) none in
    let long = pushed_by true frame.bytes tpid tci is in
    omega (arith, most, long)
push_within false frame tpid tci room is short = short

push_by : (lacks : Bool) (frame : EditedFrame) (tpid tci : ℕ) → lacks_room frame ≡ lacks → length frame.bytes ≤ 262144 → length (if lacks then frame else with_bytes frame (pushed frame.bytes tpid tci)).bytes ≤ 262144
push_by true frame tpid tci is short = short
push_by false frame tpid tci is short = push_within (has_ethernet frame.bytes) frame tpid tci is refl short

retagged_within : (op : VlanOp) (frame : EditedFrame) → length frame.bytes ≤ 262144 → length (retagged_by op frame).bytes ≤ 262144
retagged_within (ops.Push tpid id priority) frame short = push_by (lacks_room frame) frame tpid (control_of priority 0 id) refl short
retagged_within ops.Pop frame short = let less = popped_by (is_tagged frame.bytes) frame.bytes in omega (arith, less, short)
retagged_within (ops.Modify tpid id priority) frame short =
    let less = modified_by (is_tagged frame.bytes) frame.bytes tpid (control_with (two_at frame.bytes 14) id priority) refl in omega (arith, less, short)

acted_within : (p : Params) (frame : EditedFrame) → length frame.bytes ≤ 262144 → length (acted_on p frame).bytes ≤ 262144
acted_within (params.Gact control) frame short = short
acted_within (params.Vlan op control) frame short = retagged_within op frame short
acted_within (params.Skbedit priority mark queue control) frame short = short

-- ---- a walk on its way
abbrev AreShort : List Execution → Type 0
AreShort executed = Each (λ (e : Execution). e.length ≤ 262144) executed

record IsShort (st : Standing) : Type 0 where
  pub frame : length st.frame.bytes ≤ 262144
  pub few : length st.executed ≤ st.visits
  pub each : AreShort st.executed

-- the frame and what ran are those of another standing
record IsLike (st other : Standing) : Type 0 where
  pub frame : other.frame ≡ st.frame
  pub executed : other.executed ≡ st.executed

like : (st : Standing) → IsLike st st
like st = record { frame = refl; executed = refl }

like_either : (st one other : Standing) (b : Bool) → IsLike st one → IsLike st other → IsLike st (cond b one other)
like_either st one other true first second = first
like_either st one other false first second = second

list_like : (st : Standing) (head : Head) (tables : List Head) (ending : Ending) → IsLike st (after_list st head tables ending)
list_like st head tables endings.Accept = record { frame = refl; executed = refl }
list_like st head tables endings.Pipe = record { frame = refl; executed = refl }
list_like st head tables endings.Shot = record { frame = refl; executed = refl }
list_like st head tables endings.Unspec = record { frame = refl; executed = refl }
list_like st head tables endings.Reclassify = like_either st _ _ (st.restarts == 0) (record { frame = refl; executed = refl }) (record { frame = refl; executed = refl })
list_like st head tables (endings.Goto chain) = like_either st _ _ (st.restarts == 0) (record { frame = refl; executed = refl }) (record { frame = refl; executed = refl })

action_like : (st : Standing) (head : Head) (actions : List ℕ) (tables : List Head) (stand : Stand) → IsLike st (after_action st head actions tables stand)
action_like st head actions tables (on position jumps) = record { frame = refl; executed = refl }
action_like st head actions tables (over ending) = list_like st head tables ending

found_like : (st : Standing) (head : Head) (tables : List Head) (actions : List ℕ) → IsLike st (after_found st head tables actions)
found_like st head tables [] = record { frame = refl; executed = refl }
found_like st head tables (action ∷ actions) = record { frame = refl; executed = refl }

each_more : (executed : List Execution) (e : Execution) → AreShort executed → e.length ≤ 262144 → AreShort (executed ++ e ∷ [])
each_more [] e each short = (short, tt)
each_more (first ∷ executed) e each short = (each.0, each_more executed e each.1 short)

-- one visit more, and one execution more at most
stays_short : (st other : Standing) → IsShort st → IsLike st other → other.visits ≡ st.visits + 1 → IsShort other
stays_short st other short same count = record {
  frame = subst (λ (f : EditedFrame). length f.bytes ≤ 262144) (sym same.frame) short.frame;
  few = (let few = short.few in let long = ap length same.executed in omega (arith, few, long, count));
  each = subst AreShort (sym same.executed) short.each;
}

ran_short : (st other : Standing) (serial : ℕ) (p : Params) → IsShort st → IsLike (ran st serial p) other → other.visits ≡ st.visits + 1 → IsShort other
ran_short st other serial p short same count = record {
  frame = subst (λ (f : EditedFrame). length f.bytes ≤ 262144) (sym same.frame) (acted_within p st.frame short.frame);
  few = (let few = short.few in let long = ap length same.executed in let more = length-append st.executed (record { serial = serial; length = length st.frame.bytes } ∷ []) in omega (arith, few, long, more, count));
  each = subst AreShort (sym same.executed) (each_more st.executed (record { serial = serial; length = length st.frame.bytes }) short.each short.frame);
}

next_short : (st : Standing) (place : Place) (answer : Answer) → IsShort st → (after_at st place answer).visits ≡ st.visits + 1 → IsShort (after_at st place answer)
next_short st (at_mask head (mask ∷ masks) tables) (told_actions actions) short count = stays_short st _ short (found_like st head tables actions) count
next_short st (at_action head actions position jumps tables) (told_params p) short count =
    ran_short st _ (action_at actions position) p short
    (action_like (ran st (action_at actions position) p) head actions tables (stand_after (length actions) position jumps (control_given p st.frame))) count
next_short st at_head (told_heads heads) short count = stays_short st _ short (record { frame = refl; executed = refl }) count
next_short st (at_mask head (mask ∷ masks) tables) told_no_filter short count = stays_short st _ short (record { frame = refl; executed = refl }) count
next_short st place answer short count = stays_short st _ short (record { frame = refl; executed = refl }) count

runs_short : {V : Type 0} (told : V → Question → Answer → ℕ → V → Type 0) (points : List ℕ) (before now : V) (st : Standing) (outcome : WalkOutcome) → IsShort st → IsWalk told before st points now outcome
    → (end : Standing) × IsShort end × (end.visits ≡ st.visits + length points) × (outcome_of end ≡ Some outcome)
runs_short told [] before now st outcome short walk = (st, short, (let same : st.visits ≡ st.visits + 0 = omega arith in same), walk.1)
runs_short told (p ∷ ps) before now st outcome short walk =
    let more = one_more st walk.1 in
    let rest = runs_short told ps walk.2 now (after st walk.1) outcome (next_short st st.place walk.1 short more) walk.5 in
    (rest.0, rest.1, (let count = rest.2 in let same : rest.0.visits ≡ st.visits + length (p ∷ ps) = omega (arith, count, more) in same), rest.3)

dropped : (b : Bool) (st : Standing) (outcome : WalkOutcome) → cond b (Some (outcome_with verdicts.Drop st)) None ≡ Some outcome → outcome.executed ≡ st.executed
dropped true st outcome is = (let same : outcome_with verdicts.Drop st ≡ outcome = cc is in ap (λ (o : WalkOutcome). o.executed) (sym same))
dropped false st outcome is = absurd (cc is)

at_end : (place : Place) (st : Standing) (outcome : WalkOutcome) → outcome_at place st ≡ Some outcome → outcome.executed ≡ st.executed
at_end (ended verdict) st outcome is = (let same : outcome_with verdict st ≡ outcome = cc is in ap (λ (o : WalkOutcome). o.executed) (sym same))
at_end at_head st outcome is = dropped (st.visits == 65536) st outcome is
at_end (at_mask head masks tables) st outcome is = dropped (st.visits == 65536) st outcome is
at_end (at_action head actions position jumps tables) st outcome is = dropped (st.visits == 65536) st outcome is

-- so is its frame
dropped_frame : (b : Bool) (st : Standing) (outcome : WalkOutcome) → cond b (Some (outcome_with verdicts.Drop st)) None ≡ Some outcome → outcome.frame ≡ st.frame
dropped_frame true st outcome is = (let same : outcome_with verdicts.Drop st ≡ outcome = cc is in ap (λ (o : WalkOutcome). o.frame) (sym same))
dropped_frame false st outcome is = absurd (cc is)

frame_at_end : (place : Place) (st : Standing) (outcome : WalkOutcome) → outcome_at place st ≡ Some outcome → outcome.frame ≡ st.frame
frame_at_end (ended verdict) st outcome is = (let same : outcome_with verdict st ≡ outcome = cc is in ap (λ (o : WalkOutcome). o.frame) (sym same))
frame_at_end at_head st outcome is = dropped_frame (st.visits == 65536) st outcome is
frame_at_end (at_mask head masks tables) st outcome is = dropped_frame (st.visits == 65536) st outcome is
frame_at_end (at_action head actions position jumps tables) st outcome is = dropped_frame (st.visits == 65536) st outcome is

-- ---- as a record has it
abbrev pairs_of : List Execution → List (ℕ × ℕ)
pairs_of executed = map (λ (e : Execution). (e.serial, e.length)) executed

each_paired : (executed : List Execution) → AreShort executed → Each (λ (run : ℕ × ℕ). run.1 ≤ 262144) (pairs_of executed)
each_paired [] each = tt
each_paired (e ∷ executed) each = (each.0, each_paired executed each.1)

long_paired : (executed : List Execution) → length (pairs_of executed) ≡ length executed
long_paired [] = refl
long_paired (e ∷ executed) = let rest = long_paired executed in omega (arith, rest)

-- HOW OFTEN A RECORDED WALK VISITED: 65,536 times at most
pub few_visited : (journal : List Edit) (floor ceiling : ℕ) (arrival : Arrival) (outcome : Outcome) → IsWalked journal floor ceiling arrival outcome → length outcome.points ≤ 65536
few_visited journal floor ceiling arrival outcome walked =
    few_points (IsVisited (λ point. state_at point journal)) arrival.hook arrival.packet.bytes outcome.points [] walked.visits walked.walk walked.walks

-- WHAT A RECORDED WALK RAN: 65,536 actions at most, each on a frame of 262,144 bytes at most
pub executed_short : (journal : List Edit) (floor ceiling : ℕ) (arrival : Arrival) (outcome : Outcome) → IsWalked journal floor ceiling arrival outcome → length arrival.packet.bytes ≤ 262144 → IsShortRun outcome.executed
executed_short journal floor ceiling arrival outcome walked small =
    let st : Standing = begun arrival.hook arrival.packet.bytes in
    let told = IsVisited (λ point. state_at point journal) in
    let start : IsShort st = record { frame = small; few = omega arith; each = tt } in
    let end = runs_short told outcome.points [] walked.visits st walked.walk start walked.walks in
    let few = few_points told arrival.hook arrival.packet.bytes outcome.points [] walked.visits walked.walk walked.walks in
    let count = end.2 in
    let short = end.1.few in
    let ran : walked.walk.executed ≡ end.0.executed = at_end end.0.place end.0 walked.walk end.3 in
    let pairs : outcome.executed ≡ pairs_of end.0.executed = walked.recorded.executed ∙ ap pairs_of ran in
    let long = long_paired end.0.executed in
    let many : length (pairs_of end.0.executed) ≤ 65536 = omega (arith, long, short, count, few) in
    subst IsShortRun (sym pairs) (many, each_paired end.0.executed end.1.each)

-- WHAT A RECORDED WALK LEFT: a frame of 262,144 bytes at most
pub frame_short : (journal : List Edit) (floor ceiling : ℕ) (arrival : Arrival) (outcome : Outcome) → IsWalked journal floor ceiling arrival outcome → length arrival.packet.bytes ≤ 262144 → length outcome.bytes ≤ 262144
frame_short journal floor ceiling arrival outcome walked small =
    let st : Standing = begun arrival.hook arrival.packet.bytes in
    let told = IsVisited (λ point. state_at point journal) in
    let start : IsShort st = record { frame = small; few = omega arith; each = tt } in
    let end = runs_short told outcome.points [] walked.visits st walked.walk start walked.walks in
    let left : walked.walk.frame ≡ end.0.frame = frame_at_end end.0.place end.0 walked.walk end.3 in
    let bytes : outcome.bytes ≡ end.0.frame.bytes = walked.recorded.bytes ∙ ap (λ (f : EditedFrame). f.bytes) left in
    subst (λ (bs : List ℕ). length bs ≤ 262144) (sym bytes) end.1.frame
