use Rattle.std.proofs.Common.{refl}
use Rattle.state_past.proofs.journals.answers.JournalAnswersPointChanges.head_after.Goals as goal

pub returns : goal.returns
returns c = record { other = tt; steady = λ later from before. refl }
