use Rattle.std.proofs.Common.{◌≡◌, ◌∙◌, ◌⊎◌, inl, inr, ℕ, List, sym, ap, subst}
use Rattle.store_history.specs.declared.history.Commit.{Commit}
use Rattle.filter_state.specs.declared.edit.Edit.{Edit}
use Rattle.hook_store_law.specs.OfEdits.Premises.{now}
use Rattle.desk_needs.specs.Needs.{nothing, needs_of}
use Rattle.desk_parts.specs.OfWays.Ways.{needs_by}
use Rattle.shared_hook.specs.declared.plans.plan.Plan.{Plan}
use Rattle.shared_hook.specs.declared.plans.plan.Plan.TheVariants as plans
use Rattle.shared_hook.proofs.OfPlans.Needing.{marks_need, makings_need, changes_need, deletions_need}
use Rattle.shared_hook.specs.OfPlans.Plans.{IsPlan}
use Rattle.desk_parts.proofs.OfWays.Needed.{ways_need}
use Rattle.shared_hook.proofs.plans.plan.Plan.needs.Goals as goal

marked : (h : List (Commit Edit)) (y : Edit) (plan : Plan) → (plan ≡ plans.Mark) ⊎ (plan ≡ plans.DeleteAction) → IsPlan h y plan
    → record nothing { blocks = 0; actions = 0 } ≡ needs_of (now h) y
marked h y plan (inl is) it = marks_need h y (subst (IsPlan h y) is it)
marked h y plan (inr is) it = deletions_need h y (subst (IsPlan h y) is it)

pub returns-in-Mark : goal.returns-in-Mark
returns-in-Mark c = record { needs = λ h b y t done a plan same. c.of_action-in-Mark.ensures ∙ marked h y c.args.self.now c.in-Mark.is plan }

pub returns-in-MakeAction : goal.returns-in-MakeAction
returns-in-MakeAction c = record { needs = λ h b y t done a plan same. c.of_action.ensures ∙ makings_need h b y t done a (subst (IsPlan h y) c.in-MakeAction.is plan) }

pub returns-in-ChangeAction : goal.returns-in-ChangeAction
returns-in-ChangeAction c = record { needs = λ h b y t done a plan same. c.of_action-in-ChangeAction.ensures ∙ changes_need h b y t done a (subst (IsPlan h y) c.in-ChangeAction.is plan) }

pub returns-in-Filters : goal.returns-in-Filters
returns-in-Filters c = record {
  needs = λ h b y t done a plan same. let it = subst (IsPlan h y) c.in-Filters.is plan in
      c.needs.ensures ∙ (ap (λ (n : ℕ). needs_by n c.in-Filters.way) same ∙ sym (ways_need h b y t done a c.in-Filters.way it.is));
}
