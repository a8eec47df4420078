use Rattle.std.proofs.Common.{get_or}
use Rattle.flow_fields.specs.Values.{values_of}
use Rattle.trace_lines.proofs.KeyWords.{IsFilled}
use Rattle.trace_lines.proofs.keys.with_fields_of.Given as goal

abbrev pub invariant-loop-field : goal.invariant-loop-field
invariant-loop-field l = IsFilled (λ k. get_or (values_of l.from.words) k 0) l.field l.to.words
