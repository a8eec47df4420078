-- Carrying out a plan leaves the actions that are there with as many binds and references, or more.
use Rattle.std.proofs.Common.{◌≡◌, ℕ, ◌+◌, ◌==◌, Bool, true, false, cond, List, [], ◌∷◌, Option, Some, None, refl, ap, arith}
use Rattle.act_kinds.specs.declared.params.Params.{Params}
use Rattle.filter_state.specs.States.{Action}
use Rattle.filter_state.specs.Actions.{is_named, has_serial, more_bound, Made}
use Rattle.action_plan.specs.declared.planned.PlannedAction.{PlannedAction}
use Rattle.action_plan.specs.Plans.{carried_as, carried_one, carried}
use Rattle.hook_lists.proofs.First.{first_map, first_behind}
use Rattle.filter_state.proofs.Times.{times}
use Rattle.hook_lists.proofs.Covered.{HasFor, AreCovered}

raised_serial : (b : Bool) (action : Action) → (cond b (more_bound action) action).serial ≡ action.serial
raised_serial true action = refl
raised_serial false action = refl

raised_has : (many : ℕ) (b : Bool) (action : Action) → HasFor many action → HasFor many (cond b (more_bound action) action)
raised_has many true action has = (omega (arith, has.0), omega (arith, has.1))
raised_has many false action has = has

covered_one : (serials : List ℕ) (m : Made) (p : PlannedAction) (given : Option Params) → AreCovered serials m.actions → AreCovered serials (carried_as m p given).actions
covered_one serials m p None covered n some =
    first_map (has_serial n) (λ action. cond (is_named p.kind p.index action) (more_bound action) action) (HasFor (times n serials)) (HasFor (times n serials))
    (λ action. ap (λ k. k == n) (raised_serial (is_named p.kind p.index action) action)) (λ action at has. raised_has (times n serials) (is_named p.kind p.index action) action has)
    m.actions (covered n some)
covered_one serials m p (Some params) covered n some =
    first_behind (has_serial n) (HasFor (times n serials)) m.actions (record { serial = m.made + 1; index = p.index; params = params; references = 1; binds = 1 } ∷ []) (covered n some)

pub covered_carried : (serials : List ℕ) (m : Made) (plan : List PlannedAction) → AreCovered serials m.actions → AreCovered serials (carried m plan).actions
covered_carried serials m [] covered = covered
covered_carried serials m (p ∷ plan) covered = covered_carried serials (carried_one m p) plan (covered_one serials m p p.params covered)
