-- What a walk is told, without the slots.
use Rattle.frame_edit.specs.declared.limits.TheConstants.{FRAME_MAX}
use Rattle.walk_rules.specs.declared.limits.TheConstants.{VISITS_MAX}
use Rattle.std.specs.Prelude.{ℕ, ◌≤◌, Bool, true, false, List, length, map}
use Rattle.filter_state.specs.Sound.{Each}
use Rattle.visit_room.specs.declared.names.MaskName.{MaskName}
use Rattle.visit_room.specs.declared.names.ActionName.{ActionName}
use Rattle.visit_room.specs.declared.table_head.TableHead.{TableHead}
use Rattle.walk_rules.specs.Questions.{Head, Answer, told_no_filter, told_actions}
use Rattle.walk_rules.specs.Steps.{Execution}

abbrev pub mask_serials : List MaskName → List ℕ
mask_serials masks = map (λ (mask : MaskName). mask.serial) masks

abbrev pub action_serials : List ActionName → List ℕ
action_serials actions = map (λ (action : ActionName). action.serial) actions

abbrev pub head_told : TableHead → Head
head_told head = record {
  serial = head.serial;
  chain = head.chain;
  pref = head.pref;
  protocol = head.protocol;
  masks = mask_serials head.masks;
}

abbrev pub heads_told : List TableHead → List Head
heads_told heads = map head_told heads

-- the answer of a look-up
abbrev pub filter_told : Bool → List ActionName → Answer
filter_told true actions = told_actions (action_serials actions)
filter_told false actions = told_no_filter

-- the masks of all tables that were told are known
abbrev pub MasksKnown : (ℕ → MaskName → Type 0) → List TableHead → Type 0
MasksKnown known heads = Each (λ (head : TableHead). Each (known head.serial) head.masks) heads

-- a pair as an execution
abbrev pub execution : ℕ × ℕ → Execution
execution pair = record { serial = pair.0; length = pair.1 }

-- what one walk can run: 65,536 actions, each on a frame of 262,144 bytes at most
abbrev pub IsShortRun : List (ℕ × ℕ) → Type 0
IsShortRun executed = (length executed ≤ VISITS_MAX) × Each (λ (run : ℕ × ℕ). run.1 ≤ FRAME_MAX) executed
