use Rattle.std.proofs.Common.{◌∙◌, ap, sym}
use Rattle.flow_fields.specs.Values.{values_of}
use Rattle.trace_lines.proofs.KeyWords.{no_values}
use Rattle.trace_lines.proofs.look_ups.known_mask.Goals as goal

pub returns-in-None : goal.returns-in-None
returns-in-None g c = c.new.ensures.values ∙ sym (ap values_of c.in-None.ensures ∙ no_values)
