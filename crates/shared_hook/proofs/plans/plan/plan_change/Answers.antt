use Rattle.std.proofs.Common.{◌∙◌, ℕ, inr, refl, sym, ap}
use Rattle.filter_state.specs.Actions.{is_live}
use Rattle.hook_store_law.specs.OfEdits.Premises.{now}
use Rattle.shared_hook.proofs.plans.plan.plan_change.Goals as goal

pub returns-then-is_there : goal.returns-then-is_there
returns-then-is_there c = λ h spells.
    (c.args.line.now, (refl, ap (λ (n : ℕ). is_live c.args.line.now.kind n (now h).actions) (sym c.unwrap_or.ensures) ∙ (sym (c.is_there.ensures (now h) spells) ∙ c.if-is_there.true)))

pub returns-else-is_there : goal.returns-else-is_there
returns-else-is_there c = λ h spells.
    (c.args.line.now, inr (refl, ap (λ (n : ℕ). is_live c.args.line.now.kind n (now h).actions) (sym c.unwrap_or.ensures) ∙ (sym (c.is_there.ensures (now h) spells) ∙ c.if-is_there.false)))
