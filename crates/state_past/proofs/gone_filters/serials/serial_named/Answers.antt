use Rattle.std.proofs.Common.{◌∙◌, sym, ap}
use Rattle.std.specs.Prelude.{option_copied, option_map}
use Rattle.act_kinds.specs.declared.params.Params.{Params}
use Rattle.act_registry.specs.declared.entry.Entry.{Entry}
use Rattle.state_past.proofs.OfGoneFilters.Finding.{named_entry}
use Rattle.state_past.proofs.gone_filters.serials.serial_named.Goals as goal

pub returns-in-None : goal.returns-in-None
returns-in-None c = λ s spells. sym (ap (option_map (λ (e : Entry Params). e.serial)) (sym c.find.ensures ∙ ap option_copied c.in-None.is))
    ∙ named_entry c.args.lists.now s c.args.kind c.args.index c.number.result c.actions.result.now c.number.ensures c.actions.ensures.actions spells

pub returns-in-Some : goal.returns-in-Some
returns-in-Some c = λ s spells. sym (ap (option_map (λ (e : Entry Params). e.serial)) (sym c.find.ensures ∙ ap option_copied c.in-Some.is))
    ∙ named_entry c.args.lists.now s c.args.kind c.args.index c.number.result c.actions.result.now c.number.ensures c.actions.ensures.actions spells
