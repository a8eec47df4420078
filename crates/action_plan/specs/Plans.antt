-- What is to be done for the actions of a line, before any of it is done (this project's own).
use Rattle.std.specs.Prelude.{◌≡◌, ℕ, ◌+◌, ◌==◌, ◌&&◌, Bool, List, [], ◌∷◌, ◌++◌, map, Option, Some, None}
use Rattle.std.specs.Prelude.{is_some, if◌then◌else◌, Result, Ok, Err}
use Rattle.act_kinds.specs.declared.params.Kind.{Kind}
use Rattle.act_kinds.specs.declared.params.Params.{Params}
use Rattle.act_kinds.specs.Params.{kind_of}
use Rattle.act_registry.specs.Kept as registries
use Rattle.filter_state.specs.declared.action_line.ActionLine.{ActionLine}
use Rattle.filter_state.specs.declared.refusal.Refusal.{Refusal}
use Rattle.filter_state.specs.declared.refusal.Refusal.TheVariants as refusals
use Rattle.filter_state.specs.Actions.{kind_eq, is_named, change_where, more_bound, Made, made_more}
use Rattle.filter_state.specs.Actions.{serial_of, index_or_free, Resolved}
use Rattle.action_plan.specs.declared.planned.PlannedAction.{PlannedAction}
use Rattle.action_plan.specs.Entries.{actions_of}

-- the actions of a registry, and how many it made
abbrev pub made_of : registries.Kept Params → Made
made_of registry = record { actions = actions_of registry.entries; made = registry.made }

-- ---- carrying out
-- an action that is there is bound, and one that isn't is made bound
abbrev pub carried_as : Made → PlannedAction → Option Params → Made
carried_as m p None = record m { actions = change_where (is_named p.kind p.index) more_bound m.actions }
carried_as m p (Some params) = made_more m params p.index 1

abbrev pub carried_one : Made → PlannedAction → Made
carried_one m p = carried_as m p p.params

abbrev pub carried : Made → List PlannedAction → Made
carried m [] = m
carried m (p ∷ plan) = carried (carried_one m p) plan

-- what is to be bound is there with that serial, and what is to be made isn't, and gets the next serial
abbrev pub FitsAs : Made → PlannedAction → Option Params → Type 0
FitsAs m p None = serial_of p.kind p.index m.actions ≡ Some p.serial
FitsAs m p (Some params) = (kind_of params ≡ p.kind) × (serial_of p.kind p.index m.actions ≡ None)
    × (p.serial ≡ m.made + 1)

-- each part of a plan fits what those before it leave
abbrev pub AreFit : Made → List PlannedAction → Type 0
AreFit m [] = Unit {0}
AreFit m (p ∷ plan) = FitsAs m p p.params × AreFit (carried_one m p) plan

-- how many actions a plan makes
abbrev pub makes : PlannedAction → ℕ
makes p = if is_some p.params then 1 else 0

abbrev pub made_by : List PlannedAction → ℕ
made_by [] = 0
made_by (p ∷ plan) = makes p + made_by plan

abbrev pub serials_of : List PlannedAction → List ℕ
serials_of plan = map (λ (p : PlannedAction). p.serial) plan

-- ---- planning
-- an action that isn't there is to be made, where the line writes it in full
abbrev pub made_or_refused : Made → Kind → ℕ → Option Params → Result PlannedAction Refusal
made_or_refused m kind index None = Err (refusals.NoSuchAction kind index)
made_or_refused m kind index (Some params) =
    Ok (record { kind = kind; index = index; serial = m.made + 1; params = Some params })

-- an action that is there is to be bound
abbrev pub planned_at : Made → Kind → ℕ → Option ℕ → Option Params → Result PlannedAction Refusal
planned_at m kind index (Some serial) given =
    Ok (record { kind = kind; index = index; serial = serial; params = None })
planned_at m kind index None given = made_or_refused m kind index given

abbrev pub planned_by : Made → ActionLine → Result PlannedAction Refusal
planned_by m line =
    let index : ℕ = index_or_free line.index line.kind m.actions in
    planned_at m line.kind index (serial_of line.kind index m.actions) line.params

-- a plan against what the state resolves: refused for one reason, or the plan leaves what is resolved, and
-- fits
abbrev pub PlanTold : Made → Result Resolved Refusal → Result (List PlannedAction) Refusal → Type 0
PlanTold m (Ok r) (Ok plan) = (r ≡ record { so_far = carried m plan; serials = serials_of plan })
    × AreFit m plan
PlanTold m (Err why) (Err refusal) = refusal ≡ why
PlanTold m resolved planned = ⊥

-- a plan that was filled, or the refusal of its line
abbrev pub plan_or : List PlannedAction → Result (Unit {0}) Refusal → Result (List PlannedAction) Refusal
plan_or plan (Ok done) = Ok plan
plan_or plan (Err refusal) = Err refusal

-- one part more, or the refusal of its line
abbrev pub AddTold : Result PlannedAction Refusal → List PlannedAction → List PlannedAction
    → Result (Unit {0}) Refusal → Type 0
AddTold (Ok p) old new (Ok done) = new ≡ old ++ (p ∷ [])
AddTold (Err why) old new (Err refusal) = refusal ≡ why
AddTold planned old new added = ⊥

-- the serial of the action of that kind and index that a plan makes
abbrev pub is_to_make : Kind → ℕ → PlannedAction → Bool
is_to_make kind index p = is_some p.params && (kind_eq p.kind kind && p.index == index)

abbrev pub serial_to_make : Kind → ℕ → List PlannedAction → Option ℕ
serial_to_make kind index [] = None
serial_to_make kind index (p ∷ plan) = if is_to_make kind index p then Some p.serial
    else serial_to_make kind index plan
