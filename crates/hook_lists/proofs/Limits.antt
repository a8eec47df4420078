-- How many actions are live and were made once a plan is carried out, against the limits.
use Rattle.std.proofs.Common.{◌≡◌, ℕ, ◌+◌, ◌<◌, ◌≤◌, Bool, true, false, List, length, Some, None, Result, Ok, Err, refl, sym, ◌∙◌, ap, arith}
use Rattle.std.specs.Prelude.{nat_lt, OnOk}
use Rattle.std.proofs.lemmas.Bool.Decides.{nat_tests}
use Rattle.std.proofs.lemmas.Option.{none-some}
use Rattle.std.proofs.lemmas.List.{length-map}
use Rattle.act_kinds.specs.declared.params.Params.{Params}
use Rattle.act_registry.specs.Kept as registries
use Rattle.filter_state.specs.declared.refusal.Refusal.{Refusal}
use Rattle.filter_state.specs.declared.refusal.Refusal.TheVariants as refusals
use Rattle.filter_state.specs.Actions.{Made}
use Rattle.filter_state.specs.Refusals.{when, or_else, actions_full, counters_full}
use Rattle.action_plan.specs.declared.planned.PlannedAction.{PlannedAction}
use Rattle.action_plan.specs.Entries.{action_of}
use Rattle.action_plan.specs.Plans.{made_of, carried, made_by}
use Rattle.action_plan.proofs.Counts.{made_carried, length_carried}

pub live_after : (registry : registries.Kept Params) (plan : List PlannedAction) → length (carried (made_of registry) plan).actions ≡ length registry.entries + made_by plan
live_after registry plan = omega (arith, length_carried (made_of registry) plan, length-map registry.entries action_of)

more_than : (most n : ℕ) → most < n → nat_lt most n ≡ true
more_than most n more = grind (arith, nat_tests)

not_more : (most n : ℕ) → n ≤ most → nat_lt most n ≡ false
not_more most n few = grind (arith, nat_tests)

at_most : (most n : ℕ) → nat_lt most n ≡ false → n ≤ most
at_most most n few = grind (arith, nat_tests)

-- ---- what is refused
pub too_many : (registry : registries.Kept Params) (plan : List PlannedAction) → 1024 < length registry.entries + made_by plan →
    or_else (actions_full (carried (made_of registry) plan)) (counters_full (carried (made_of registry) plan)) ≡ Some refusals.ActionsFull
too_many registry plan more =
    let next : Made = carried (made_of registry) plan in
    ap (λ b. or_else (when b refusals.ActionsFull) (counters_full next)) (more_than 1024 (length next.actions) (omega (arith, more, live_after registry plan)))

pub too_many_made : (registry : registries.Kept Params) (plan : List PlannedAction) → length registry.entries + made_by plan ≤ 1024 → 16384 < registry.made + made_by plan →
    or_else (actions_full (carried (made_of registry) plan)) (counters_full (carried (made_of registry) plan)) ≡ Some refusals.CountersFull
too_many_made registry plan few more =
    let next : Made = carried (made_of registry) plan in
    ap (λ b. or_else (when b refusals.ActionsFull) (counters_full next)) (not_more 1024 (length next.actions) (omega (arith, few, live_after registry plan)))
    ∙ ap (λ b. when b refusals.CountersFull) (more_than 16384 next.made (omega (arith, more, made_carried (made_of registry) plan)))

pub few_enough : (registry : registries.Kept Params) (plan : List PlannedAction) → length registry.entries + made_by plan ≤ 1024 → registry.made + made_by plan ≤ 16384 →
    or_else (actions_full (carried (made_of registry) plan)) (counters_full (carried (made_of registry) plan)) ≡ None
few_enough registry plan few in_run =
    let next : Made = carried (made_of registry) plan in
    ap (λ b. or_else (when b refusals.ActionsFull) (counters_full next)) (not_more 1024 (length next.actions) (omega (arith, few, live_after registry plan)))
    ∙ ap (λ b. when b refusals.CountersFull) (not_more 16384 next.made (omega (arith, in_run, made_carried (made_of registry) plan)))

-- ---- what is not refused
neither : (first second : Refusal) (b c : Bool) → or_else (when b first) (when c second) ≡ None → (b ≡ false) × (c ≡ false)
neither first second true c e = absurd (none-some first (sym e))
neither first second false true e = absurd (none-some second (sym e))
neither first second false false e = (refl, refl)

pub record AreFew (registry : registries.Kept Params) (plan : List PlannedAction) : Type 0 where
  pub few : length registry.entries + made_by plan ≤ 1024
  pub in_run : registry.made + made_by plan ≤ 16384

pub are_few : (registry : registries.Kept Params) (plan : List PlannedAction) →
    or_else (actions_full (carried (made_of registry) plan)) (counters_full (carried (made_of registry) plan)) ≡ None → AreFew registry plan
are_few registry plan none =
    let next : Made = carried (made_of registry) plan in
    let both = neither refusals.ActionsFull refusals.CountersFull (nat_lt 1024 (length next.actions)) (nat_lt 16384 next.made) none in
    record {
      few = omega (arith, at_most 1024 (length next.actions) both.0, live_after registry plan);
      in_run = omega (arith, at_most 16384 next.made both.1, made_carried (made_of registry) plan);
    }

pub on_ok : {T E : Type 0} (P Q : Type 0) (result : Result T E) → (P → Q) → OnOk result P → OnOk result Q
on_ok P Q (Ok done) more all = more all
on_ok P Q (Err why) more all = tt
