use Rattle.tc_words.specs.Lines.{words_of}
use Rattle.line_range_laws.proofs.Lines.{says}
use Rattle.batch_trace.proofs.accepted.Accepted.meet.Goals as goal

pub take-requires-clause-line : goal.take-requires-clause-line
take-requires-clause-line c = says (words_of c.args.text.now) c.in-Ok.edit c.in-Ok.ensures.line
