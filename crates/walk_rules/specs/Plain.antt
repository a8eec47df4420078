-- The plain walk: what a packet meets in one state. It looks at the rows, and makes no visits.
use Rattle.std.specs.Prelude.{ℕ, zero, suc, ◌-◌, ◌==◌, ◌&&◌, nat_le, nat_lt, List, [], ◌∷◌, ◌++◌, length}
use Rattle.std.specs.Prelude.{get_or, filter, Option, Some, None, if◌then◌else◌}
use Rattle.std.specs.List.{count_by}
use Rattle.tc_base.specs.declared.hook.Hook.{Hook}
use Rattle.frame_edit.specs.EditedFrame.{EditedFrame, loaded_frame}
use Rattle.frame_edit.specs.Tags.{ether_type_of}
use Rattle.flow_dissect.specs.Fields.{frame_values}
use Rattle.act_kinds.specs.declared.params.Params.{Params}
use Rattle.act_kinds.specs.Acts.{acted_on, control_given}
use Rattle.act_list.specs.declared.limits.TheConstants.{JUMPS_MAX}
use Rattle.act_list.specs.declared.run.Ending.{Ending}
use Rattle.act_list.specs.declared.run.Ending.TheVariants as endings
use Rattle.act_list.specs.Run.{Stand, on, over, stand_after}
use Rattle.filter_state.specs.States.{Row, Action, State}
use Rattle.filter_state.specs.Actions.{has_serial}
use Rattle.filter_state.specs.Tables.{first_where}
use Rattle.walk_rules.specs.declared.limits.TheConstants.{VISITS_MAX, RESTARTS_MAX}
use Rattle.walk_rules.specs.declared.verdict.Verdict.{Verdict}
use Rattle.walk_rules.specs.declared.verdict.Verdict.TheVariants as verdicts
use Rattle.walk_rules.specs.Questions.{Head}
use Rattle.walk_rules.specs.Heads.{heads_on}
use Rattle.walk_rules.specs.Answers.{meets}
use Rattle.walk_rules.specs.Steps.{Execution, tries}
use Rattle.walk_rules.specs.Walks.{Outcome}

-- the frame as it is, and what ran on it
pub record Carried : Type 0 where
  pub frame : EditedFrame
  pub executed : List Execution

abbrev pub ends_with : Verdict → Carried → Outcome
ends_with verdict carried = record { verdict = verdict; frame = carried.frame; executed = carried.executed }

-- an action that ran
abbrev pub carried_on : Carried → ℕ → Params → Carried
carried_on carried serial params = record {
  frame = acted_on params carried.frame;
  executed = carried.executed ++ (record { serial = serial; length = length carried.frame.bytes } ∷ []);
}

-- ---- a table
-- the first of some rows that no other has a lesser mask serial than
abbrev pub older : Row → Option Row → Row
older row None = row
older row (Some other) = if nat_le row.mask_serial other.mask_serial then row else other

abbrev pub oldest : List Row → Option Row
oldest [] = None
oldest (row ∷ rows) = Some (older row (oldest rows))

-- of a table's filters that the frame meets, the one of the oldest mask decides
abbrev pub decider : State → Head → EditedFrame → Option Row
decider s head frame =
    oldest (filter (λ row. row.table == head.serial && meets (frame_values frame.bytes) row) s.rows)

-- how many of the table's masks are looked at: those up to the decider's, or all
abbrev pub looked_at : Head → Option Row → ℕ
looked_at head None = length head.masks
looked_at head (Some row) = count_by (λ mask. nat_le mask row.mask_serial) head.masks

-- ---- a list of actions
-- how a run of a list ends, with the visits that are then left; or they were spent before
pub data ListEnd : Type 0 where
  list_over : Ending → ℕ → Carried → ListEnd
  spent : Carried → ListEnd

abbrev pub list_on : (ℕ → ℕ → ListEnd) → ℕ → Carried → Stand → ListEnd
list_on more left carried (on position jumps) = more position jumps
list_on more left carried (over ending) = list_over ending left carried

-- an action that isn't live spends them: no sound state has one in a list
abbrev pub run_action : (Carried → ℕ → ℕ → ListEnd) → List ℕ → ℕ → ℕ → ℕ → Carried → Option Action → ListEnd
run_action more actions left position jumps carried None = spent carried
run_action more actions left position jumps carried (Some action) =
    let next = carried_on carried (get_or actions position 0) action.params in
    list_on (more next) left next
    (stand_after (length actions) position jumps (control_given action.params carried.frame))

-- each execution takes one visit
abbrev pub run_list : State → List ℕ → ℕ → Carried → ℕ → ℕ → ListEnd
run_list s actions zero carried position jumps = spent carried
run_list s actions (suc left) carried position jumps =
    run_action (λ carried' position' jumps'. run_list s actions left carried' position' jumps') actions left
    position jumps carried
    (first_where (has_serial (get_or actions position 0)) s.actions)

-- ---- tables, chains and restarts
-- what follows a list: `restart` goes to a chain's first table, and `next` to the next table
abbrev pub after_end : (ℕ → ℕ → Carried → Outcome) → (ℕ → Carried → Outcome) → ListEnd → Outcome
after_end restart next (spent carried) = ends_with verdicts.Drop carried
after_end restart next (list_over endings.Accept left carried) = ends_with verdicts.Pass carried
after_end restart next (list_over endings.Pipe left carried) = ends_with verdicts.Pass carried
after_end restart next (list_over endings.Shot left carried) = ends_with verdicts.Drop carried
after_end restart next (list_over endings.Unspec left carried) = next left carried
after_end restart next (list_over endings.Reclassify left carried) = restart 0 left carried
after_end restart next (list_over (endings.Goto chain) left carried) = restart chain left carried

abbrev pub filter_outcome : State → (ℕ → ℕ → Carried → Outcome) → (ℕ → Carried → Outcome) → ℕ → Carried
    → List ℕ → Outcome
filter_outcome s restart next left carried [] = ends_with verdicts.Pass carried
filter_outcome s restart next left carried (action ∷ actions) =
    after_end restart next (run_list s (action ∷ actions) left carried 0 JUMPS_MAX)

abbrev pub decided : State → (ℕ → ℕ → Carried → Outcome) → (ℕ → Carried → Outcome) → ℕ → Carried → Option Row
    → Outcome
decided s restart next left carried None = next left carried
decided s restart next left carried (Some row) = filter_outcome s restart next left carried row.actions

-- the masks that are looked at take a visit each
abbrev pub table_outcome : State → (ℕ → ℕ → Carried → Outcome) → (ℕ → Carried → Outcome) → ℕ → Carried → Head
    → Option Row → Outcome
table_outcome s restart next left carried head row =
    if nat_lt left (looked_at head row) then ends_with verdicts.Drop carried
    else decided s restart next (left - looked_at head row) carried row

abbrev pub tables_outcome : State → (ℕ → ℕ → Carried → Outcome) → ℕ → List Head → ℕ → Carried → Outcome
tables_outcome s restart chain [] left carried = ends_with verdicts.Pass carried
tables_outcome s restart chain (head ∷ tables) left carried =
    if tries chain (ether_type_of carried.frame.bytes) head
    then table_outcome s restart (tables_outcome s restart chain tables) left carried head
    (decider s head carried.frame)
    else tables_outcome s restart chain tables left carried

-- from the first table of a chain, with so many restarts left
abbrev pub chain_outcome : State → List Head → ℕ → ℕ → ℕ → Carried → Outcome
chain_outcome s heads zero chain left carried =
    tables_outcome s (λ chain' left' carried'. ends_with verdicts.Drop carried') chain heads left carried
chain_outcome s heads (suc restarts) chain left carried =
    tables_outcome s (chain_outcome s heads restarts) chain heads left carried

-- THE PLAIN WALK of these bytes at a hook: the head takes the first of 65,536 visits
unfoldable pub plain_walk : State → Hook → List ℕ → Outcome
plain_walk s hook bytes = chain_outcome s (heads_on hook s) RESTARTS_MAX 0 (VISITS_MAX - 1)
    (record { frame = loaded_frame bytes; executed = [] })
