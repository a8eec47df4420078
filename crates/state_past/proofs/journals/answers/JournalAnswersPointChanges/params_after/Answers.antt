use Rattle.std.proofs.Common.{subst}
use Rattle.walk_rules.specs.Questions.{params_of}
use Rattle.state_past.specs.NextChange.{IsNextChange}
use Rattle.state_past.specs.OfJournals.Answered.{Answerer, answer_by}
use Rattle.state_past.proofs.journals.answers.JournalAnswersPointChanges.params_after.Goals as goal

pub returns : goal.returns
returns c =
    subst (λ (by : Answerer). IsNextChange (λ at. answer_by by at (params_of c.args.serial))
    c.args.point c.params_after.result) c.self.view_is
    (c.params_after.ensures c.self.inside._journal.now c.self.invariant)
