use Rattle.std.proofs.Common.{◌∙◌, ap, option_map}
use Rattle.filter_state.specs.Journals.{state_at}
use Rattle.walk_rules.specs.Questions.{params_of, told_params}
use Rattle.walk_rules.specs.Answers.{answer_of}
use Rattle.slot_pasts.specs.Pasts.{value_at, stood}
use Rattle.slot_pasts.specs.Serials.{past_at}
use Rattle.state_past.proofs.Changing.{change_told}
use Rattle.state_past.proofs.FoundAnswers.{params_apart}
use Rattle.state_past.proofs.Recalled.{params_told, params_there}
use Rattle.state_past.proofs.past.StatePast.params_after.Goals as goal

pub returns : goal.returns
returns c = λ journal remembers. let past = c.args.self.now in
    change_told (λ at. stood (value_at at (past_at past.actions c.args.serial)))
    (λ at. answer_of (state_at at journal) (params_of c.args.serial)) (option_map told_params)
    c.args.point c.other_params_after.result params_apart
    (λ p. params_told (state_at p journal) c.args.serial
    ∙ ap (option_map told_params) (params_there past journal remembers p c.args.serial))
    c.other_params_after.ensures
