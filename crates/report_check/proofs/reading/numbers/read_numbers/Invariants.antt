use Rattle.std.proofs.Common.{length, ◌<◌, ◌^◌}
use Rattle.filter_state.specs.Sound.{Each}
use Rattle.report_check.proofs.OfReading.Reading.{IsLeft}
use Rattle.report_check.proofs.reading.numbers.read_numbers.Given as goal

abbrev pub invariant-loop-number : goal.invariant-loop-number
invariant-loop-number l = record { small : Each (λ number. number < 2 ^ 32) l.into.items; left : IsLeft l.text l.left l.into.items }

abbrev pub decreases-loop-number : goal.decreases-loop-number
decreases-loop-number l = length l.left
