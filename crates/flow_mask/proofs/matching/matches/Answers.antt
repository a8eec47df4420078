use Rattle.std.proofs.Common.{arith}
use Rattle.flow_mask.proofs.FieldsAndWords.{words_are_fields}
use Rattle.flow_mask.proofs.matching.matches.Goals as goal

pub returns-clause-fields : goal.returns-clause-fields
returns-clause-fields g c = λ mask_tidy key_tidy. (
    let law = words_are_fields c.args.frame_key.now.words c.args.mask.now.words c.args.key.now.words (omega arith) (omega arith) mask_tidy key_tidy in
    (λ t. law.0 (c.slices_match.ensures.words.0 t), λ e. c.slices_match.ensures.words.1 (law.1 e))
    )
