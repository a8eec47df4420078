use Rattle.std.proofs.Common.{Result, Err, sym, ◌∙◌, ap, subst}
use Rattle.std.proofs.lemmas.Result.{err_from_is_err_and}
use Rattle.action_plan.specs.Plans.{made_of, plan_or}
use Rattle.filter_state.specs.declared.refusal.Refusal.{Refusal}
use Rattle.filter_state.specs.Steps.{resolved_for}
use Rattle.hook_lists.specs.States.{state_of}
use Rattle.hook_lists.specs.Steps.{refusal_of}
use Rattle.filter_lists.specs.OfReplacing.Planning.{IsLooked}
use Rattle.filter_lists.proofs.OfReplacing.Looking.{told_err, told_ok, before_refused, resolving_refused, after_refused, looked}
use Rattle.filter_lists.proofs.replacing.planning.look.Goals as goal

pub returns-in_err-check_before : goal.returns-in_err-check_before
returns-in_err-check_before c =
    let p = err_from_is_err_and c.from_residual.result c.from_residual.ensures.1 in
    subst (λ (r : Result (Unit {0}) Refusal). IsLooked c.args.kept.now c.args.line.now c.args.old.now (plan_or c.args.plan.now r)) (sym (p.1 ∙ ap (λ (x : Refusal). Err x) p.2))
    (before_refused c.args.kept.now c.args.line.now c.args.old.now c.requires.found c.in_err-check_before.field-0.0
    (sym c.check_before.ensures ∙ ap refusal_of c.in_err-check_before.was))

pub returns-in_err-resolve : goal.returns-in_err-resolve
returns-in_err-resolve c =
    let p = err_from_is_err_and c.from_residual-in_err-resolve.result c.from_residual-in_err-resolve.ensures.1 in
    subst (λ (r : Result (Unit {0}) Refusal). IsLooked c.args.kept.now c.args.line.now c.args.old.now (plan_or c.resolve.new.plan r)) (sym (p.1 ∙ ap (λ (x : Refusal). Err x) p.2))
    (resolving_refused c.args.kept.now c.args.line.now c.args.old.now c.requires.found c.in_err-resolve.field-0.0
    (sym c.check_before.ensures ∙ ap refusal_of c.in_ok-check_before.was)
    (told_err (made_of c.args.kept.now.actions) (resolved_for (state_of c.args.kept.now) c.args.line.now.actions) c.in_err-resolve.field-0.0 c.in_err-resolve.ensures))

pub returns-in_err-check_after : goal.returns-in_err-check_after
returns-in_err-check_after c =
    let p = err_from_is_err_and c.from_residual-in_err-check_after.result c.from_residual-in_err-check_after.ensures.1 in
    subst (λ (r : Result (Unit {0}) Refusal). IsLooked c.args.kept.now c.args.line.now c.args.old.now (plan_or c.resolve.new.plan r)) (sym (p.1 ∙ ap (λ (x : Refusal). Err x) p.2))
    (after_refused c.args.kept.now c.args.line.now c.args.old.now c.requires.found c.resolve.new.plan c.in_err-check_after.field-0.0
    (sym c.check_before.ensures ∙ ap refusal_of c.in_ok-check_before.was)
    (told_ok (made_of c.args.kept.now.actions) (resolved_for (state_of c.args.kept.now) c.args.line.now.actions) c.resolve.new.plan c.in_ok-resolve.ensures).0
    (sym c.check_after.ensures ∙ ap refusal_of c.in_err-check_after.was))

pub returns : goal.returns
returns c =
    looked c.args.kept.now c.args.line.now c.args.old.now c.resolve.new.plan c.requires.kept c.requires.found
    (sym c.check_before.ensures ∙ ap refusal_of (c.in_ok-check_before.was))
    (told_ok (made_of c.args.kept.now.actions) (resolved_for (state_of c.args.kept.now) c.args.line.now.actions) c.resolve.new.plan c.in_ok-resolve.ensures)
    (sym c.check_after.ensures ∙ ap refusal_of c.in_ok-check_after.was)
