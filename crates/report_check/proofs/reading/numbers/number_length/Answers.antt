use Rattle.std.proofs.Common.{◌∙◌, ap, length}
use Rattle.std.specs.Option.{unwrap_or}
use Rattle.tc_words.proofs.FirstWords.{place_or_length}
use Rattle.report_check.specs.OfReading.Packets.{is_low}
use Rattle.report_check.proofs.reading.numbers.number_length.Goals as goal

pub returns-clause-value : goal.returns-clause-value
returns-clause-value c = c.unwrap_or.ensures ∙ ap (λ o. unwrap_or o (length c.args.text.now)) c.number_end.ensures ∙ place_or_length is_low c.args.text.now
