use Rattle.std.proofs.Common.{◌≡◌, length}
use Rattle.walk_fate_laws.specs.declared.kinds.When.{When}
use Rattle.walk_fate_laws.specs.Fates.{Fate}
use Rattle.walk_fate_laws.specs.Stays.{fate_at_end}
use Rattle.fate_times.specs.Marks.{times_of, marked}
use Rattle.fate_times.proofs.OneByOne.{times_to}
use Rattle.fate_times.proofs.marking.mark.Given as goal

-- the times up to a place are marked
abbrev pub invariant-loop-place : goal.invariant-loop-place
invariant-loop-place l = record {
  each : length l.whens ≡ length l.fates;
  so_far : (when : Fate → When) → l.fn.whens ≡ times_of when l.fates
      → l.whens ≡ times_to (marked (fate_at_end l.walk.standing) l.seen when) when l.place l.fates;
}
