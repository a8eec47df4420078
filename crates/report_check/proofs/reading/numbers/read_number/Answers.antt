use Rattle.std.proofs.Common.{◌≡◌, ◌∙◌, ℕ, ◌<◌, ◌^◌, List, Some, sym, ap, arith}
use Rattle.std.specs.Fmt.{decimal}
use Rattle.tc_words.specs.Numbers.{decimal_of}
use Rattle.line_texts.proofs.Decimals.{decimal-read}
use Rattle.report_check.proofs.reading.numbers.read_number.Goals as goal

-- the digits that were cut off are read
read : (text digits : List ℕ) (number : ℕ) → number < 2 ^ 32 → digits ≡ decimal number → decimal_of digits 4294967295 ≡ Some number
read text digits number small is = ap (λ (ds : List ℕ). decimal_of ds 4294967295) is ∙ decimal-read 4294967295 number (omega (arith, small)) (omega (arith, small))

pub returns-in_err-read_decimal-clause-read : goal.returns-in_err-read_decimal-clause-read
returns-in_err-read_decimal-clause-read c = λ number rest small low parts.
    absurd (cc (sym c.in_err-read_decimal.was ∙ c.read_decimal.ensures.value ∙ read c.args.text.now c.cut_number.result.0.now number small (c.cut_number.ensures.cut number rest low parts).0))

pub returns-clause-read : goal.returns-clause-read
returns-clause-read c = λ number rest small low parts.
    let cut = c.cut_number.ensures.cut number rest low parts in
    let value : Some c.in_ok-read_decimal.field-0 ≡ Some number = sym c.in_ok-read_decimal.was ∙ c.read_decimal.ensures.value ∙ read c.args.text.now c.cut_number.result.0.now number small cut.0 in
    cc (value, cut.1)
