use Rattle.flow_fields.specs.Values.{values_of}
use Rattle.trace_lines.proofs.FieldTexts.{sought_same}
use Rattle.trace_lines.proofs.Grown.{same_words}
use Rattle.trace_lines.proofs.look_ups.push_miss.Goals as goal

pub returns : goal.returns
returns g c =
    same_words c.push_sought.result _ _ _ _ _ c.in_ok-push_word.ensures
    (sought_same (values_of c.args.frame.now.words) c.known_mask.result.words _ c.known_mask.ensures) c.push_sought.ensures
