use Rattle.tc_print.proofs.ReadsLines.{words_give}
use Rattle.tc_print.proofs.CleanEdits.{edit_clean, printed_gives}
use Rattle.tc_print.proofs.laws.printed_lines_give_their_edits.Goals as goal

pub returns-clause-gives : goal.returns-clause-gives
returns-clause-gives c = printed_gives

pub returns-clause-words : goal.returns-clause-words
returns-clause-words c = words_give

pub returns-clause-clean : goal.returns-clause-clean
returns-clause-clean c = edit_clean
