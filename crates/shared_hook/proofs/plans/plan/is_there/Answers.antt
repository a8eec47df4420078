use Rattle.std.proofs.Common.{◌∙◌, Option, sym, ap}
use Rattle.std.specs.Prelude.{is_some}
use Rattle.std.specs.Option.{option_copied}
use Rattle.act_kinds.specs.declared.params.Params.{Params}
use Rattle.act_registry.specs.declared.entry.Entry.{Entry}
use Rattle.act_registry.specs.Kept as registries
use Rattle.action_plan.specs.Entries.{actions_of}
use Rattle.filter_state.specs.Actions.{is_live}
use Rattle.filter_lists.proofs.Registries.{live_found}
use Rattle.shared_hook.proofs.plans.plan.is_there.Goals as goal

pub returns-in-Some : goal.returns-in-Some
returns-in-Some c = λ s spells.
    sym (live_found c.args.kind c.args.index c.number.result c.actions.result.now.entries c.number.ensures
    ∙ ap (λ (o : Option (Entry Params)). is_some o) (sym c.find.ensures ∙ ap option_copied c.in-Some.is))
    ∙ (ap (λ (r : registries.Kept Params). is_live c.args.kind c.args.index (actions_of r.entries)) c.actions.ensures.actions ∙ ap (is_live c.args.kind c.args.index) spells.actions)

pub returns-in_default : goal.returns-in_default
returns-in_default c = λ s spells.
    sym (live_found c.args.kind c.args.index c.number.result c.actions.result.now.entries c.number.ensures
    ∙ ap (λ (o : Option (Entry Params)). is_some o) (sym c.find.ensures ∙ ap option_copied c.in_default.is))
    ∙ (ap (λ (r : registries.Kept Params). is_live c.args.kind c.args.index (actions_of r.entries)) c.actions.ensures.actions ∙ ap (is_live c.args.kind c.args.index) spells.actions)
