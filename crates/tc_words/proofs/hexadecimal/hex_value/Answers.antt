use Rattle.std.proofs.Common.{◌+◌, ◌*◌, arith}
use Rattle.tc_words.proofs.HexDigits.{below_more, below_power}
use Rattle.tc_words.proofs.hexadecimal.hex_value.Goals as goal

pub overflow_mul-value : goal.overflow_mul-value
overflow_mul-value c =
    let i = c.loop-digit.digit-index in
    let more = below_more c.loop-digit.value 0 i c.loop-digit.invariant.below (omega arith) in
    omega (arith, below_power (c.loop-digit.value * 16 + 0) (i + 1) 16 more (omega (arith, c.requires.short, c.loop-digit-test.true)))

pub overflow_add-value : goal.overflow_add-value
overflow_add-value c =
    let i = c.loop-digit.digit-index in
    let more = below_more c.loop-digit.value c.digit_value.result i c.loop-digit.invariant.below c.digit_value.ensures.below in
    omega (arith, c.from.ensures, below_power (c.loop-digit.value * 16 + c.digit_value.result) (i + 1) 16 more (omega (arith, c.requires.short, c.loop-digit-test.true)))
