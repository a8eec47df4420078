use Rattle.std.proofs.Common.{◌∙◌, sym, ap}
use Rattle.flow_fields.specs.Values.{values_of}
use Rattle.walk_rules.specs.Questions.{filter_of}
use Rattle.change_points.specs.Answers.{HookChange, answer_in}
use Rattle.change_points.proofs.answers.ChangeAnswersPointAnswers.look_up.Goals as goal

pub returns : goal.returns
returns c = λ table.
    let values = values_of c.args.key.now.words in
    ap (λ (by : HookChange). answer_in by c.args.point (filter_of table c.args.mask values)) (sym c.self.view_is)
    ∙ c.look_up.ensures c.self.inside._journal.now c.self.invariant.0 table
