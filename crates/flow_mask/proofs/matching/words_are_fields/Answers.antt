use Rattle.flow_mask.proofs.FieldsAndWords.{words_are_fields}
use Rattle.flow_mask.proofs.matching.words_are_fields.Goals as goal

pub returns : goal.returns
returns c = words_are_fields
