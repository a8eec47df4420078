use Rattle.tc_words.specs.Lines.{words_of}
use Rattle.line_range_laws.proofs.Lines.{says}
use Rattle.hook_speed.proofs.lines.Line.read.Goals as goal

pub invariant_of-result : goal.invariant_of-result
invariant_of-result c = says (words_of c.args.text.now) c.in_ok-line.field-0 c.in_ok-line.ensures.line
