use Rattle.std.proofs.Common.{◌∙◌, sym, ap}
use Rattle.std.specs.Prelude.{option_copied, option_map}
use Rattle.filter_state.specs.Journals.{state_at}
use Rattle.walk_rules.specs.Questions.{told_params}
use Rattle.state_past.proofs.Recalled.{params_told, live_fits, sound_there, params_there}
use Rattle.state_past.proofs.past.StatePast.params.Goals as goal

pub returns-in-Some-clause-answer : goal.returns-in-Some-clause-answer
returns-in-Some-clause-answer c = λ journal remembers. params_told (state_at c.args.point journal) c.args.serial
    ∙ ap (option_map told_params) (params_there c.args.self.now journal remembers c.args.point c.args.serial ∙ (sym c.at.ensures ∙ ap option_copied c.in-Some.is))

pub returns-in-Some-clause-fits : goal.returns-in-Some-clause-fits
returns-in-Some-clause-fits c = let journal = c.requires.0 in let remembers = c.requires.1 in
    live_fits (state_at c.args.point journal) c.args.serial _ (sound_there c.args.self.now journal remembers c.args.point)
    (params_there c.args.self.now journal remembers c.args.point c.args.serial ∙ (sym c.at.ensures ∙ ap option_copied c.in-Some.is))

pub returns-in-None-clause-answer : goal.returns-in-None-clause-answer
returns-in-None-clause-answer c = λ journal remembers. params_told (state_at c.args.point journal) c.args.serial
    ∙ ap (option_map told_params) (params_there c.args.self.now journal remembers c.args.point c.args.serial ∙ (sym c.at.ensures ∙ ap option_copied c.in-None.is))
