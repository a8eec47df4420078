use Rattle.batch_trace.proofs.Numbered.{told_again, on_ok}
use Rattle.batch_trace.proofs.telling.push_told.Goals as goal

pub returns-clause-text : goal.returns-clause-text
returns-clause-text c = λ entries hook frame number told is.
    on_ok c.note.result (told_again entries hook frame c.args.lines.now c.args.decided.now number c.args.head.now
    c.args.text.now.items c.push_numbered.new.text.items told is c.in_ok-push_numbered.ensures)
