use Rattle.std.proofs.Common.{◌∙◌, sym}
use Rattle.flow_fields.proofs.Puts.{value_at}
use Rattle.trace_lines.proofs.keys.value.Goals as goal

pub returns-clause-value : goal.returns-clause-value
returns-clause-value c = c.get.ensures.value ∙ sym (value_at c.args.key.now.words c.args.field 0 c.requires)
