use Rattle.std.proofs.Common.{arith, sym}
use Rattle.std.proofs.Math.Nat.{pow-le-pow_right}
use Rattle.line_words.proofs.WordParts.{hex_alone, hex_and_mask}
use Rattle.line_words.proofs.masked_values.read_masked_hex.Goals as goal

pub pow-requires : goal.pow-requires
pow-requires c = omega (arith, c.requires, pow-le-pow_right {n = 16} (omega arith) {i = c.args.digits} {j = 15} (omega (arith, c.requires)))

pub overflow_sub-pow : goal.overflow_sub-pow
overflow_sub-pow c = omega (arith, c.pow.ensures, pow-le-pow_right {n = 16} (omega arith) {i = 0} {j = c.args.digits} (omega arith))

pub returns-in-Some : goal.returns-in-Some
returns-in-Some c =
    let masked = hex_and_mask c.args.word.now c.in-Some.value.now c.in-Some.mask.now c.args.digits (sym c.in-Some.ensures) in
    cc (masked, c.under_mask.ensures, c.read_hex.ensures.value, c.read_hex-in-Some.ensures.value)

pub returns-in-None : goal.returns-in-None
returns-in-None c =
    let masked = hex_alone c.args.word.now c.args.digits (sym c.in-None.ensures) in
    cc (masked, c.under_mask-in-None.ensures, c.read_hex-in-None.ensures.value, c.pow.ensures)
