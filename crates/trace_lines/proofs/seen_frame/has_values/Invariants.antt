use Rattle.std.proofs.Common.{◌≡◌, ℕ, ◌<◌}
use Rattle.std.specs.Prelude.{slice_index}
use Rattle.flow_fields.specs.Values.{values_of}
use Rattle.trace_lines.proofs.seen_frame.has_values.Given as goal

-- the values so far are equal
abbrev pub invariant-loop-field : goal.invariant-loop-field
invariant-loop-field l = (k : ℕ) → k < l.field → slice_index (values_of l.key.words) k ≡ slice_index (values_of l.other.words) k
