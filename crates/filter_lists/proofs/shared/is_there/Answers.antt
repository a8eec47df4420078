use Rattle.std.proofs.Common.{sym, ap, ◌∙◌, Option}
use Rattle.std.specs.Prelude.{is_some}
use Rattle.std.specs.Option.{option_copied}
use Rattle.act_kinds.specs.declared.params.Params.{Params}
use Rattle.act_registry.specs.declared.entry.Entry.{Entry}
use Rattle.filter_lists.proofs.Registries.{live_found}
use Rattle.filter_lists.proofs.shared.is_there.Goals as goal

pub returns-in-Some : goal.returns-in-Some
returns-in-Some c =
    sym (live_found c.args.kind c.args.index c.number.result c.args.kept.now.actions.entries c.number.ensures
    ∙ ap (λ (o : Option (Entry Params)). is_some o) (sym c.find.ensures ∙ ap option_copied c.in-Some.is))

pub returns-in_default : goal.returns-in_default
returns-in_default c =
    sym (live_found c.args.kind c.args.index c.number.result c.args.kept.now.actions.entries c.number.ensures
    ∙ ap (λ (o : Option (Entry Params)). is_some o) (sym c.find.ensures ∙ ap option_copied c.in_default.is))
