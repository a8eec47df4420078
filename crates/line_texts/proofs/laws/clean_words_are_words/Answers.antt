use Rattle.line_texts.proofs.Clean.{words-joined}
use Rattle.line_texts.proofs.laws.clean_words_are_words.Goals as goal

pub returns : goal.returns
returns c = words-joined
