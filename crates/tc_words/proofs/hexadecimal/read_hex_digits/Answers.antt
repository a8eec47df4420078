use Rattle.std.proofs.Common.{length, sym}
use Rattle.tc_words.proofs.HexDigits.{below_power, length-is_hex}
use Rattle.tc_words.proofs.hexadecimal.read_hex_digits.Goals as goal

pub returns-clause-below : goal.returns-clause-below
returns-clause-below c =
    let short = length-is_hex c.args.text.now c.args.most (sym c.if-not-has_hex_form.ensures) in
    below_power c.hex_value.result (length c.args.text.now) c.args.most c.hex_value.ensures.below short
