use Rattle.std.proofs.Common.{sym, ◌∙◌, ap, subst}
use Rattle.hook_lists.specs.Steps.{refusal_of}
use Rattle.filter_lists.specs.OfRemoving.Removals.{IsPlanned}
use Rattle.filter_lists.proofs.OfRemoving.Planned.{refused_no_table, step_goes_on}
use Rattle.filter_lists.proofs.removing.planning.plan_removal.Goals as goal

pub returns-in_default : goal.returns-in_default
returns-in_default c =
    refused_no_table c.args.kept.now c.args.hook c.args.protocol c.args.chain c.args.pref c.args.handle c.requires
    (sym c.check_hook.ensures ∙ ap refusal_of (c.in_ok-check_hook.was)) (sym c.check_protocol_if.ensures ∙ ap refusal_of (c.in_ok-check_protocol_if.was)) (sym c.find_table-place.ensures ∙ c.in_default.is)

pub returns : goal.returns
returns c =
    subst (IsPlanned c.args.kept.now c.plan_found.result)
    (step_goes_on c.args.kept.now c.args.hook c.args.protocol c.args.chain c.args.pref c.in-Some.table c.args.handle c.requires
    (sym c.check_hook.ensures ∙ ap refusal_of (c.in_ok-check_hook.was)) (sym c.check_protocol_if.ensures ∙ ap refusal_of (c.in_ok-check_protocol_if.was)) (sym c.find_table-place.ensures ∙ c.in-Some.is)) c.plan_found.ensures
