use Rattle.flow_fields.specs.Values.{values_of}
use Rattle.trace_lines.specs.Fields.{whole_at}
use Rattle.trace_lines.proofs.KeyWords.{IsFilled}
use Rattle.trace_lines.proofs.keys.whole_mask.Given as goal

abbrev pub invariant-loop-field : goal.invariant-loop-field
invariant-loop-field l = IsFilled (whole_at (values_of l.frame.words)) l.field l.mask.words
