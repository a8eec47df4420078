use Rattle.std.proofs.Common.{◌≡◌, ◌<◌, ◌^◌, take}
use Rattle.tc_words.specs.Hexadecimal.{hex_value}
use Rattle.tc_words.proofs.hexadecimal.hex_value.Given as goal

abbrev pub invariant-loop-digit : goal.invariant-loop-digit
invariant-loop-digit l = record {
  value : l.value ≡ hex_value (take l.digit-index l.digits);
  below : l.value < 16 ^ l.digit-index;
}
