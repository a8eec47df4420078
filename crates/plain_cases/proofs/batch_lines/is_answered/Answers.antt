use Rattle.tc_words.specs.Lines.{words_of}
use Rattle.plain_cases.proofs.batch_lines.is_answered.Goals as goal

pub print_edit-requires : goal.print_edit-requires
print_edit-requires c = c.lines_are_in_range.ensures (words_of c.args.text.now) c.in-Ok-None.edit c.in-Ok-None.ensures.line
