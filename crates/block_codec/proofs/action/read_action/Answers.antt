use Rattle.std.proofs.Common.{◌∙◌, sym}
use Rattle.std.proofs.lemmas.Bool.{false≢true}
use Rattle.block_codec.proofs.Acting.{none_read, some_read}
use Rattle.block_codec.proofs.action.read_action.Goals as goal

pub returns-then-not-has_action : goal.returns-then-not-has_action
returns-then-not-has_action c = none_read c.args.words.now c.told-words (λ has. false≢true (sym c.if-not-has_action.true ∙ c.has_action.ensures.1 has))

pub returns : goal.returns
returns c = let has = c.has_action.ensures.0 c.if-not-has_action.false in
    some_read c.args.words.now _ _ c.in_ok-read_params.field-0 c.number_before.result c.told-words c.fits-words has c.low_half.ensures c.high_half.ensures c.number_before.ensures
    c.in_ok-read_params.ensures.found c.in_ok-read_params.ensures.only
