use Rattle.std.proofs.Common.{◌∙◌, ap, sym}
use Rattle.std.proofs.lemmas.Bool.{false≢true}
use Rattle.block_codec.specs.Reading.{protocol_in}
use Rattle.block_codec.proofs.Tabling.{none_read, some_read}
use Rattle.block_codec.proofs.table.read_table.Goals as goal

pub returns-then-not-has_table : goal.returns-then-not-has_table
returns-then-not-has_table c = none_read c.args.words.now c.told-words (λ has. false≢true (sym c.if-not-has_table.true ∙ c.has_table.ensures.1 has))

pub returns : goal.returns
returns c = let has = c.has_table.ensures.0 c.if-not-has_table.false in
    some_read c.args.words.now _ c.number_before.result c.told-words has
    (λ i. record { serial = c.low_half.ensures i; chain = c.low_half-2.ensures i; pref = c.high_half.ensures i; protocol = (c.protocol_in.ensures ∙ ap protocol_in c.high_half-2.ensures) i; masks = c.masks_in.ensures i }) c.number_before.ensures
