use Rattle.std.proofs.Common.{◌∙◌, sym, get_or}
use Rattle.std.proofs.lemmas.Bool.{false≢true}
use Rattle.block_codec.proofs.Masking.{none_read, some_read}
use Rattle.block_codec.proofs.mask.read_mask.Goals as goal

pub returns-then-not-has_mask : goal.returns-then-not-has_mask
returns-then-not-has_mask c = none_read c.args.words.now c.told-words (λ has. false≢true (sym c.if-not-has_mask.true ∙ c.has_mask.ensures.1 has))

pub returns : goal.returns
returns c = let has = c.has_mask.ensures.0 c.if-not-has_mask.false in
    some_read c.args.words.now _ c.number_before.result c.told-words c.fits-words has (λ i. record { serial = get_or c.args.words.now 1 0; size = get_or c.args.words.now 2 0; mask = record { words = c.key_in.ensures i }; rows = c.first_rows.ensures i }) c.number_before.ensures
