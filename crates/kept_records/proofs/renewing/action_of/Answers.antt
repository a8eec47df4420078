use Rattle.std.proofs.Common.{◌∙◌, sym}
use Rattle.block_codec.specs.OfReadings.Read.{action_of_words}
use Rattle.kept_records.proofs.Chains.{read_words}
use Rattle.kept_records.proofs.renewing.action_of.Goals as goal

pub returns : goal.returns
returns c = λ chain same. c.action_in.ensures ∙ sym (read_words action_of_words chain c.in_ok-words.field-0 (sym same ∙ c.in_ok-words.was))
