-- Where the program's places say that a walk stands.
use Rattle.walk_rules.specs.declared.limits.TheConstants.{VISITS_MAX}
use Rattle.std.specs.Prelude.{◌≡◌, ℕ, false, ◌-◌, ◌<◌, ◌≤◌, ◌==◌, List, [], ◌∷◌, ◌++◌, length, map, drop}
use Rattle.std.specs.Prelude.{Some, if◌then◌else◌, slice_index_or}
use Rattle.frame_edit.specs.Tags.{ether_type_of}
use Rattle.flow_fields.specs.Values.{values_of}
use Rattle.flow_dissect.specs.Fields.{frame_values}
use Rattle.filter_state.specs.Sound.{Each}
use Rattle.act_list.specs.declared.limits.TheConstants.{JUMPS_MAX}
use Rattle.act_list.specs.declared.run.Ending.{Ending}
use Rattle.act_list.specs.declared.run.Ending.TheVariants as endings
use Rattle.visit_room.specs.declared.names.MaskName.{MaskName}
use Rattle.visit_room.specs.declared.names.ActionName.{ActionName}
use Rattle.visit_room.specs.declared.table_head.TableHead.{TableHead}
use Rattle.walk_rules.specs.declared.verdict.Verdict.TheVariants as verdicts
use Rattle.walk_rules.specs.Questions.{Head, Question, Answer}
use Rattle.walk_rules.specs.Steps.{Place, at_head, at_mask, at_action, ended, Standing, masks_or, first_stop}
use Rattle.walk_rules.specs.Steps.{question_of, after}
use Rattle.walk_steps.specs.declared.course.Course.{Course}
use Rattle.walk_steps.specs.declared.course.Stage.{Stage}
use Rattle.walk_steps.specs.declared.course.Stage.TheVariants as stages
use Rattle.walk_steps.specs.Told.{heads_told, action_serials, execution, MasksKnown}

-- ---- places
-- the first of some tables, at one of its masks, or at an action of a list
abbrev pub mask_place : List Head → ℕ → Place
mask_place [] mask = ended verdicts.Pass
mask_place (head ∷ tables) mask = at_mask head (drop mask head.masks) tables

abbrev pub action_place : List Head → List ℕ → ℕ → ℕ → Place
action_place [] actions position jumps = ended verdicts.Pass
action_place (head ∷ tables) actions position jumps = at_action head actions position jumps tables

abbrev pub place_of : List TableHead → List ActionName → Stage → Place
place_of heads hit stages.AtHead = at_head
place_of heads hit (stages.AtMask table mask) = mask_place (heads_told (drop table heads)) mask
place_of heads hit (stages.AtAction table run) =
    action_place (heads_told (drop table heads)) (action_serials hit) run.at run.jumps
place_of heads hit (stages.Over verdict) = ended verdict

-- the places are those of a table, of one of its masks, and of an action of the list
abbrev pub IsMask : List TableHead → ℕ → ℕ → Type 0
IsMask heads table mask = (d : TableHead) → mask < length (slice_index_or heads table d).masks

abbrev pub IsStop : List TableHead → List ActionName → Stage → Type 0
IsStop heads hit stages.AtHead = Unit {0}
IsStop heads hit (stages.AtMask table mask) = (table < length heads) × IsMask heads table mask
IsStop heads hit (stages.AtAction table run) = (table < length heads) × (run.length ≡ length hit)
    × (run.ended ≡ false)
IsStop heads hit (stages.Over verdict) = Unit {0}

-- ---- standings
abbrev pub standing_of : Course → Standing
standing_of c = record {
  hook = c.hook;
  frame = c.frame;
  heads = heads_told c.heads.tables;
  restarts = c.restarts;
  visits = length c.points;
  executed = map execution c.executed;
  place = place_of c.heads.tables c.hit c.stage;
}

-- what holds of a walk between its calls
pub record IsCourse (c : Course) : Type 0 where
  pub stop : IsStop c.heads.tables c.hit c.stage
  pub fields : values_of c.key.words ≡ frame_values c.frame.bytes
  pub executed : length c.executed ≤ length c.points
  pub visits : length c.points ≤ VISITS_MAX

abbrev pub IsGoing : Course → Type 0
IsGoing c = (question : Question) × (question_of (standing_of c) ≡ Some question)

-- ---- one visit
pub record Stepped {V : Type 0} (told : V → Question → Answer → ℕ → V → Type 0) (before now : V)
    (old new : Course) : Type 0 where
  pub question : Question
  pub answer : Answer
  pub point : ℕ
  pub asks : question_of (standing_of old) ≡ Some question
  pub answered : told before question answer point now
  pub goes : standing_of new ≡ after (standing_of old) answer
  pub kept : new.points ≡ old.points ++ (point ∷ [])

-- actions are asked for while they run
abbrev pub actions_at : List ActionName → Stage → List ActionName
actions_at hit (stages.AtAction table run) = hit
actions_at hit stage = []

-- whoever answers knows the masks that the head told, and the actions that run
pub record IsKnown {V : Type 0} (knows_mask : V → ℕ → MaskName → Type 0)
    (knows_action : V → ActionName → Type 0) (visits : V) (c : Course) : Type 0 where
  pub masks : MasksKnown (knows_mask visits) c.heads.tables
  pub actions : Each (knows_action visits) (actions_at c.hit c.stage)

-- ---- what follows, without the count of visits
abbrev pub place_unhit : ℕ → Place → Place
place_unhit ether (at_mask head (mask ∷ masks) tables) =
    masks_or head masks tables (first_stop head.chain ether tables)
place_unhit ether place = ended verdicts.Pass

abbrev pub place_hit : List ActionName → Place → Place
place_hit [] place = ended verdicts.Pass
place_hit (action ∷ actions) (at_mask head masks tables) =
    at_action head (action_serials (action ∷ actions)) 0 JUMPS_MAX tables
place_hit (action ∷ actions) place = ended verdicts.Pass

abbrev pub stands_at : Standing → Place → Standing
stands_at st place = record st { place = place }

abbrev pub restart_at : Standing → ℕ → Standing
restart_at st chain =
    if st.restarts == 0 then stands_at st (ended verdicts.Drop)
    else record (stands_at st
    (first_stop chain (ether_type_of st.frame.bytes) st.heads)) { restarts = st.restarts - 1 }

abbrev pub list_ended_at : Standing → Head → List Head → Ending → Standing
list_ended_at st head tables endings.Accept = stands_at st (ended verdicts.Pass)
list_ended_at st head tables endings.Pipe = stands_at st (ended verdicts.Pass)
list_ended_at st head tables endings.Shot = stands_at st (ended verdicts.Drop)
list_ended_at st head tables endings.Unspec =
    stands_at st (first_stop head.chain (ether_type_of st.frame.bytes) tables)
list_ended_at st head tables endings.Reclassify = restart_at st 0
list_ended_at st head tables (endings.Goto chain) = restart_at st chain

abbrev pub list_ended : Standing → List Head → Ending → Standing
list_ended st [] ending = stands_at st (ended verdicts.Pass)
list_ended st (head ∷ tables) ending = list_ended_at st head tables ending
