use Rattle.std.proofs.Common.{◌∙◌, sym, ap}
use Rattle.std.specs.Prelude.{option_copied, option_map}
use Rattle.act_kinds.specs.declared.params.Params.{Params}
use Rattle.act_registry.specs.declared.entry.Entry.{Entry}
use Rattle.state_past.proofs.Recalled.{params_kept}
use Rattle.state_past.proofs.actions.params_of.Goals as goal

pub returns-in-Some : goal.returns-in-Some
returns-in-Some c = λ s spells. sym (ap (option_map (λ (e : Entry Params). e.params)) (sym c.of_serial.ensures ∙ ap option_copied c.in-Some.is))
    ∙ params_kept c.args.lists.now s c.args.serial c.actions.result.now c.actions.ensures.actions spells

pub returns-in-None : goal.returns-in-None
returns-in-None c = λ s spells. sym (ap (option_map (λ (e : Entry Params). e.params)) (sym c.of_serial.ensures ∙ ap option_copied c.in-None.is))
    ∙ params_kept c.args.lists.now s c.args.serial c.actions.result.now c.actions.ensures.actions spells
