use Rattle.std.proofs.Common.{◌≡◌, ◌≤◌, true, take}
use Rattle.std.specs.List.{list_all}
use Rattle.std.specs.Char.{is_ascii_digit}
use Rattle.tc_words.specs.Numbers.{digits_value}
use Rattle.tc_words.proofs.numbers.value_up_to.Given as goal

abbrev pub invariant-loop-digit : goal.invariant-loop-digit
invariant-loop-digit l = record {
  value : l.value ≡ digits_value (take l.digit-index l.word);
  most : l.value ≤ l.most;
  digits : list_all is_ascii_digit (take l.digit-index l.word) ≡ true;
}
