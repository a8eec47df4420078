-- How many actions a plan makes and leaves.
use Rattle.std.proofs.Common.{◌≡◌, ℕ, ◌+◌, ◌≤◌, ◌<◌, Bool, true, false, List, [], ◌∷◌, ◌++◌, length, Option, Some, None, refl, ap, arith}
use Rattle.std.specs.Prelude.{is_some, if◌then◌else◌}
use Rattle.std.proofs.lemmas.List.{length-append, length-map}
use Rattle.act_kinds.specs.declared.params.Params.{Params}
use Rattle.filter_state.specs.Actions.{is_named, more_bound, Made}
use Rattle.action_plan.specs.declared.planned.PlannedAction.{PlannedAction}
use Rattle.action_plan.specs.Plans.{carried_as, carried_one, carried, makes, made_by}

pub one_made : (m : Made) (p : PlannedAction) (given : Option Params) → (carried_as m p given).made ≡ m.made + (if is_some given then 1 else 0)
one_made m p None = omega arith
one_made m p (Some params) = refl

pub made_carried : (m : Made) (plan : List PlannedAction) → (carried m plan).made ≡ m.made + made_by plan
made_carried m [] = omega arith
made_carried m (p ∷ plan) = omega (arith, made_carried (carried_one m p) plan, one_made m p p.params)

pub one_longer : (m : Made) (p : PlannedAction) (given : Option Params) → length (carried_as m p given).actions ≡ length m.actions + (if is_some given then 1 else 0)
one_longer m p None = omega (arith, length-map m.actions (λ x. if is_named p.kind p.index x then more_bound x else x))
one_longer m p (Some params) = length-append m.actions (record { serial = m.made + 1; index = p.index; params = params; references = 1; binds = 1 } ∷ [])

pub length_carried : (m : Made) (plan : List PlannedAction) → length (carried m plan).actions ≡ length m.actions + made_by plan
length_carried m [] = omega arith
length_carried m (p ∷ plan) = omega (arith, length_carried (carried_one m p) plan, one_longer m p p.params)

at_most_one : (b : Bool) → (if b then 1 else 0) ≤ 1
at_most_one true = omega arith
at_most_one false = omega arith

pub few_made : (plan : List PlannedAction) → made_by plan ≤ length plan
few_made [] = omega arith
few_made (p ∷ plan) = omega (arith, few_made plan, at_most_one (is_some p.params))

pub made_more_by : (plan : List PlannedAction) (p : PlannedAction) → made_by (plan ++ (p ∷ [])) ≡ made_by plan + makes p
made_more_by [] p = omega arith
made_more_by (q ∷ plan) p = omega (arith, made_more_by plan p)

-- ---- one part more
pub made_then : (plan new : List PlannedAction) (p : PlannedAction) (made : ℕ) → new ≡ plan ++ (p ∷ []) → made ≡ made_by plan → is_some p.params ≡ true → made + 1 ≡ made_by new
made_then plan new p made grown so_many some =
    let one : makes p ≡ 1 = ap (λ b. if b then 1 else 0) some in
    omega (arith, so_many, made_more_by plan p, ap made_by grown, one)

pub unmade_then : (plan new : List PlannedAction) (p : PlannedAction) (made : ℕ) → new ≡ plan ++ (p ∷ []) → made ≡ made_by plan → is_some p.params ≡ false → made ≡ made_by new
unmade_then plan new p made grown so_many none =
    let no_more : makes p ≡ 0 = ap (λ b. if b then 1 else 0) none in
    omega (arith, so_many, made_more_by plan p, ap made_by grown, no_more)

pub one_longer_plan : (plan new : List PlannedAction) (p : PlannedAction) (long : ℕ) → new ≡ plan ++ (p ∷ []) → length plan ≡ long → long < 16 → length new ≤ 16
one_longer_plan plan new p long grown is few = omega (arith, is, few, ap length grown, length-append plan (p ∷ []))
