use Rattle.std.proofs.Common.{◌+◌, ◌<◌, arith}
use Rattle.std.proofs.lemmas.Bool.Decides.{nat_tests}
use Rattle.tc_words.specs.Numbers.{digits_value}
use Rattle.tc_words.proofs.Digits.{digits_value-take, digits_value_more}
use Rattle.tc_words.proofs.numbers.value_up_to.Goals as goal

pub returns-then-value-from : goal.returns-then-value-from
returns-then-value-from c =
    let i = c.loop-digit.digit-index in
    let le = digits_value-take (i + 1) c.args.word.now in
    let more = digits_value_more i c.args.word.now c.loop-digit-test.true in
    let above : c.args.most < digits_value c.args.word.now = omega (arith, le, more, c.loop-digit.invariant.value) in
    grind (arith, nat_tests, above)
