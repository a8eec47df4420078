use Rattle.std.proofs.Common.{◌≡◌, ℕ, take}
use Rattle.run_counts.specs.Counting.{count_of, counted_in, both}
use Rattle.run_counts.proofs.counts.RunCounts.add.Given as goal

abbrev pub invariant-loop-serial : goal.invariant-loop-serial
invariant-loop-serial l = (serial : ℕ) → count_of l.self serial ≡ both (count_of l.fn.self serial) (counted_in (take l.serial-index l.executed) serial)
