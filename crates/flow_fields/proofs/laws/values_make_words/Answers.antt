use Rattle.flow_fields.proofs.Words.{words_from_values}
use Rattle.flow_fields.proofs.laws.values_make_words.Goals as goal

pub returns : goal.returns
returns c = words_from_values
