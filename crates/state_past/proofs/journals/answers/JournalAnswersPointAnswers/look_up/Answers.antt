use Rattle.std.proofs.Common.{◌∙◌, sym, ap}
use Rattle.flow_fields.specs.Values.{values_of}
use Rattle.walk_rules.specs.Questions.{filter_of}
use Rattle.state_past.specs.OfJournals.Answered.{Answerer, answer_by}
use Rattle.state_past.proofs.journals.answers.JournalAnswersPointAnswers.look_up.Goals as goal

pub returns : goal.returns
returns c = λ table. ap (λ (by : Answerer). answer_by by c.args.point (filter_of table c.args.mask (values_of c.args.key.now.words))) (sym c.self.view_is)
    ∙ c.look_up.ensures c.self.inside._journal.now c.self.invariant table
