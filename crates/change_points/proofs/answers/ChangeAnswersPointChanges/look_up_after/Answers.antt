use Rattle.std.proofs.Common.{subst}
use Rattle.flow_fields.specs.Values.{values_of}
use Rattle.walk_rules.specs.Questions.{filter_of}
use Rattle.state_past.specs.NextChange.{IsNextChange}
use Rattle.change_points.specs.Answers.{HookChange, answer_in}
use Rattle.change_points.proofs.answers.ChangeAnswersPointChanges.look_up_after.Goals as goal

pub returns : goal.returns
returns c = λ table.
    let values = values_of c.args.key.now.words in
    subst (λ (by : HookChange). IsNextChange (λ at. answer_in by at (filter_of table c.args.mask values))
    c.args.point c.look_up_after.result) c.self.view_is
    (c.look_up_after.ensures c.self.inside._journal.now c.self.invariant.0 table)
