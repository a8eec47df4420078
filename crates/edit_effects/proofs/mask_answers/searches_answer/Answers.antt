use Rattle.edit_effects.proofs.OfMaskAnswers.Searching.{search_answers}
use Rattle.edit_effects.proofs.mask_answers.searches_answer.Goals as goal

pub returns : goal.returns
returns c = search_answers
