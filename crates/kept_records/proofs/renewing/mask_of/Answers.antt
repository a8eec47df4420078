use Rattle.std.proofs.Common.{◌∙◌, sym}
use Rattle.block_codec.specs.OfReadings.Read.{mask_of_words}
use Rattle.kept_records.proofs.Chains.{read_words}
use Rattle.kept_records.proofs.renewing.mask_of.Goals as goal

pub returns : goal.returns
returns c = λ chain same. c.mask_in.ensures ∙ sym (read_words mask_of_words chain c.in_ok-words.field-0 (sym same ∙ c.in_ok-words.was))
