use Rattle.std.proofs.Common.{◌==◌, ◌&&◌, nat_le, nat_lt, slice_index_or, length, sym, ◌∙◌}
use Rattle.std.specs.List.{list_all}
use Rattle.std.specs.Char.{is_ascii_digit}
use Rattle.tc_words.specs.Numbers.{digits_value, decimal_of}
use Rattle.tc_words.proofs.Digits.{misbegun, well_begun}
use Rattle.tc_words.proofs.numbers.read_decimal.Goals as goal

pub returns-then-is_misbegun-clause-value : goal.returns-then-is_misbegun-clause-value
unfolding decimal_of
returns-then-is_misbegun-clause-value c =
    let word = c.args.word.now in
    misbegun (length word == 0) (nat_lt 1 (length word) && slice_index_or word 0 0 == 48) (list_all is_ascii_digit word) (nat_le (digits_value word) c.args.most) (digits_value word)
    (sym c.is_misbegun.ensures ∙ c.if-is_misbegun.true)

pub returns-clause-value : goal.returns-clause-value
unfolding decimal_of
returns-clause-value c =
    let word = c.args.word.now in
    c.value_up_to.ensures
    ∙ well_begun (length word == 0) (nat_lt 1 (length word) && slice_index_or word 0 0 == 48) (list_all is_ascii_digit word) (nat_le (digits_value word) c.args.most) (digits_value word)
    (sym c.is_misbegun.ensures ∙ c.if-is_misbegun.false)
