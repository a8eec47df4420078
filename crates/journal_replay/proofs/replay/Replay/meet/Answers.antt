use Rattle.tc_words.specs.Lines.{words_of}
use Rattle.line_range_laws.proofs.Lines.{says}
use Rattle.journal_replay.proofs.replay.Replay.meet.Goals as goal

pub apply-requires-clause-line : goal.apply-requires-clause-line
apply-requires-clause-line c = says (words_of c.args.text.now) c.in-Ok.edit c.in-Ok.ensures.line
