use Rattle.flow_fields.specs.Values.{values_of}
use Rattle.filter_state.specs.Journals.{state_at}
use Rattle.walk_rules.specs.Questions.{filter_of}
use Rattle.walk_rules.specs.Answers.{answer_of}
use Rattle.state_past.specs.Found.{found_at}
use Rattle.state_past.proofs.Changing.{change_told}
use Rattle.state_past.proofs.FoundAnswers.{found_told, found_apart, found_answers}
use Rattle.state_past.proofs.past.StatePast.look_up_after.Goals as goal

pub returns : goal.returns
returns c = λ journal remembers table. let past = c.args.self.now in let key = c.args.key.now.words in
    change_told (found_at past c.args.mask key)
    (λ at. answer_of (state_at at journal) (filter_of table c.args.mask (values_of key))) found_told
    c.args.point c.other_found_after.result found_apart
    (λ p. found_answers past journal remembers p c.args.mask table key c.key_words-words.ensures.count)
    c.other_found_after.ensures
