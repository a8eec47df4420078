use Rattle.std.proofs.Common.{arith}
use Rattle.flow_mask.proofs.FieldsAndWords.{words_are_fields}
use Rattle.flow_mask.proofs.masked_key.MaskedKey.matches.Goals as goal

pub returns-clause-fields : goal.returns-clause-fields
returns-clause-fields c = rw (← c.self.view_is) (λ mask_tidy key_tidy. (
    let law = words_are_fields c.args.frame_key.now.words c.self.inside.mask.words c.self.inside.key.words (omega arith) (omega arith) mask_tidy key_tidy in
    (λ t. law.0 (c.match_at.ensures.0 t), λ e. c.match_at.ensures.1 (law.1 e))
    ))
