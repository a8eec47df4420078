use Rattle.std.proofs.Common.{◌≡◌, length}
use Rattle.hook_cases.proofs.counts.draw_all.Given as goal

abbrev pub invariant-loop-at : goal.invariant-loop-at
invariant-loop-at l = record { making : l.seat.making ≡ l.fn.claims; drawn : length l.seat.deeds ≡ l.at }
