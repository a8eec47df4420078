use Rattle.std.proofs.Common.{◌∙◌, ap}
use Rattle.std.specs.Fmt.{decimal}
use Rattle.std.specs.List.{position_or_len}
use Rattle.report_check.specs.OfReading.Packets.{is_low}
use Rattle.report_check.proofs.OfReading.Ends.{number_ends, cut_there}
use Rattle.report_check.proofs.reading.numbers.cut_number.Goals as goal

pub returns-clause-cut : goal.returns-clause-cut
returns-clause-cut c = λ number rest low parts. cut_there c.args.text.now (decimal number) rest c.number_length-length.result
    (c.number_length-length.ensures.value ∙ ap (position_or_len is_low) parts ∙ number_ends number rest low) parts
