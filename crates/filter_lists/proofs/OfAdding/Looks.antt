-- How far the step has come when a line is looked at.
use Rattle.std.proofs.Common.{◌≡◌, ℕ, List, Option, Some, None, Result, Ok, Err, refl, sym, ◌∙◌, ap}
use Rattle.std.proofs.lemmas.Option.{none-some}
use Rattle.filter_state.specs.declared.edit.FilterLine.{FilterLine}
use Rattle.filter_state.specs.declared.refusal.Refusal.{Refusal}
use Rattle.filter_state.specs.States.{State}
use Rattle.filter_state.specs.Actions.{Made, Resolved, and_then}
use Rattle.filter_state.specs.Refusals.{or_else, no_hook}
use Rattle.filter_state.specs.Steps.{unless, pref_for, resolved_for, filter_add, filter_added, add_at, add_resolved}
use Rattle.action_plan.specs.declared.planned.PlannedAction.{PlannedAction}
use Rattle.action_plan.specs.Plans.{AreFit, PlanTold}
use Rattle.filter_lists.specs.OfAdding.Looks.{place_refusal, limit_refusal, resolved_by_plan}

pub at_actions : (s : State) (line : FilterLine) (pref : ℕ) → None ≡ no_hook s → Ok pref ≡ pref_for s line.hook line.chain line.pref → None ≡ place_refusal s line pref
    → filter_add s line ≡ and_then (add_resolved s line pref) (resolved_for s line.actions)
at_actions s line pref hooked is placed =
    ap (λ o. unless o (and_then (add_at s line) (pref_for s line.hook line.chain line.pref))) (sym hooked)
    ∙ ap (and_then (add_at s line)) (sym is)
    ∙ ap (λ o. unless o (and_then (add_resolved s line pref) (resolved_for s line.actions))) (sym placed)

-- ---- the plan and what is resolved
pub told_refused : (m : Made) (o : Result Resolved Refusal) (refusal : Refusal) → PlanTold m o (Err refusal) → o ≡ Err refusal
told_refused m (Ok r) refusal told = elim told [ ]
told_refused m (Err why) refusal told = ap (λ k. Err k) (sym told)

pub told_planned : (m : Made) (o : Result Resolved Refusal) (plan : List PlannedAction) → PlanTold m o (Ok plan) → (o ≡ Ok (resolved_by_plan m plan)) × AreFit m plan
told_planned m (Ok r) plan told = (ap (λ k. Ok k) told.0, told.1)
told_planned m (Err why) plan told = elim told [ ]

pub refused_actions : (s : State) (line : FilterLine) (pref : ℕ) (refusal : Refusal) → filter_add s line ≡ and_then (add_resolved s line pref) (resolved_for s line.actions)
    → resolved_for s line.actions ≡ Err refusal → filter_add s line ≡ Err refusal
refused_actions s line pref refusal far is = far ∙ ap (and_then (add_resolved s line pref)) is

pub at_limits : (s : State) (line : FilterLine) (pref : ℕ) (r : Resolved) → filter_add s line ≡ and_then (add_resolved s line pref) (resolved_for s line.actions)
    → resolved_for s line.actions ≡ Ok r → filter_add s line ≡ add_resolved s line pref r
at_limits s line pref r far is = far ∙ ap (and_then (add_resolved s line pref)) is

pub refused_limits : (s : State) (line : FilterLine) (pref : ℕ) (r : Resolved) (refusal : Refusal) → filter_add s line ≡ add_resolved s line pref r
    → Some refusal ≡ limit_refusal s line pref r.so_far → filter_add s line ≡ Err refusal
refused_limits s line pref r refusal far is = far ∙ ap (λ o. unless o (filter_added s line pref r)) (sym is)

pub accepted : (s : State) (line : FilterLine) (pref : ℕ) (r : Resolved) → filter_add s line ≡ add_resolved s line pref r
    → None ≡ limit_refusal s line pref r.so_far → filter_add s line ≡ filter_added s line pref r
accepted s line pref r far is = far ∙ ap (λ o. unless o (filter_added s line pref r)) (sym is)

-- ---- where nothing is refused
pub neither : (a b : Option Refusal) → or_else a b ≡ None → (a ≡ None) × (b ≡ None)
neither (Some refusal) b e = absurd (none-some refusal (sym e))
neither None b e = (refl, e)
