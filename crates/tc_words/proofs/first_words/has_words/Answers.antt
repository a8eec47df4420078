use Rattle.std.proofs.Common.{arith}
use Rattle.tc_words.proofs.FirstWords.{has_word, has_no_word}
use Rattle.tc_words.proofs.first_words.has_words.Goals as goal

pub returns-in-empty : goal.returns-in-empty
returns-in-empty c = has_no_word c.args.line.now c.without_blanks.result.now c.without_blanks.ensures (omega arith)

pub returns-in-len1-up : goal.returns-in-len1-up
returns-in-len1-up c = has_word c.args.line.now c.without_blanks.result.now c.without_blanks.ensures (omega arith)
