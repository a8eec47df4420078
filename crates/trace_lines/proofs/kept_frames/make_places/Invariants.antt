use Rattle.std.proofs.Common.{◌≤◌, length}
use Rattle.trace_lines.proofs.kept_frames.make_places.Given as goal

abbrev pub invariant-loop : goal.invariant-loop
invariant-loop l = l.counter ≤ length l.kept.items
