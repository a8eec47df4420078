-- What the calls make of what is kept, and what they ask for.
use Rattle.act_registry.specs.declared.limits.TheConstants.{ACTIONS_MAX, MADE_MAX}
use Rattle.std.specs.Prelude.{◌≡◌, ◌+◌, ◌≤◌, List, length, Option, Some, None, Result, Ok, Err}
use Rattle.filter_state.specs.declared.refusal.Refusal.{Refusal}
use Rattle.filter_state.specs.declared.refusal.Refusal.TheVariants as refusals
use Rattle.filter_state.specs.Steps.{Stepped}
use Rattle.action_plan.specs.declared.planned.PlannedAction.{PlannedAction}
use Rattle.action_plan.specs.Plans.{made_of, AreFit, made_by}
use Rattle.hook_lists.specs.declared.kept.Kept.{Kept}
use Rattle.tc_base.specs.Memory.{no_memory}

-- the refusal that a check answered
abbrev pub refusal_of : {T : Type 0} → Result T Refusal → Option Refusal
refusal_of (Ok done) = None
refusal_of (Err refusal) = Some refusal

-- all is as before, but there may be more room
pub record IsRoomier (old new : Kept) : Type 0 where
  pub hooked : new.hooked ≡ old.hooked
  pub ingress : new.ingress.tables ≡ old.ingress.tables
  pub egress : new.egress.tables ≡ old.egress.tables
  pub entries : new.actions.entries ≡ old.actions.entries
  pub made : new.actions.made ≡ old.actions.made
  pub tables_made : new.tables_made ≡ old.tables_made
  pub masks_made : new.masks_made ≡ old.masks_made
  pub filters : new.filters ≡ old.filters

-- a plan fits the actions that are kept: there is room for what it makes, and no limit is passed
pub record PlanFits (kept : Kept) (plan : List PlannedAction) : Type 0 where
  pub fit : AreFit (made_of kept.actions) plan
  pub room : made_by plan ≤ kept.actions.spare
  pub few : length kept.actions.entries + made_by plan ≤ ACTIONS_MAX
  pub in_run : kept.actions.made + made_by plan ≤ MADE_MAX

-- all but the actions is as before
pub record SameTables (old new : Kept) : Type 0 where
  pub hooked : new.hooked ≡ old.hooked
  pub ingress : new.ingress ≡ old.ingress
  pub egress : new.egress ≡ old.egress
  pub tables_made : new.tables_made ≡ old.tables_made
  pub masks_made : new.masks_made ≡ old.masks_made
  pub filters : new.filters ≡ old.filters

-- an edit is prepared where the step accepts it, and refused for the step's reason, or for want of memory
-- where the step accepts it
abbrev pub IsPrepared : {P : Type 0} → Result P Refusal → Stepped → Type 0
IsPrepared (Ok prepared) (Ok next) = Unit {0}
IsPrepared (Err refusal) (Err said) = refusal ≡ said
IsPrepared (Err refusal) (Ok next) = refusal ≡ refusals.NoMemory no_memory
IsPrepared (Ok prepared) (Err said) = ⊥
