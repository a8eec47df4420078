use Rattle.std.proofs.Common.{append_assoc, arith}
use Rattle.line_texts.proofs.Hexadecimal.{hex_text-one, hex_text-more}
use Rattle.line_texts.proofs.numbers.+push_hex.Goals as goal

pub returns-then-number-lt16 : goal.returns-then-number-lt16
returns-then-number-lt16 t c = rw (hex_text-one c.args.number c.if-number-lt16.true) c.push_digit.ensures

pub returns : goal.returns
returns t c = rw (hex_text-more c.args.number c.if-number-lt16.false c.ranges.number.fits) (grind (arith, append_assoc, c.push_digit-2.ensures, c.in_ok-push_hex.ensures))
