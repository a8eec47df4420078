use Rattle.std.proofs.Common.{◌∙◌, ℕ, ◌+◌, ◌++◌, Option, ap}
use Rattle.trace_lines.specs.Lines.{joined, restart_lines}
use Rattle.trace_lines.specs.Parts.{line_of_visit, chain_in, spent_lines_at}
use Rattle.trace_lines.proofs.Grown.{two_more}
use Rattle.trace_lines.proofs.telling.tell_made.Goals as goal

pub returns-clause-lines : goal.returns-clause-lines
returns-clause-lines g c =
    let visit = c.args.visit.now in
    let told = c.args.told in
    let once = c.tell_answer.new.page in
    let twice = c.tell_restart.new.page in
    two_more c.args.page.now once twice c.tell_spent.new.page (line_of_visit told (g.N.Naming.names c.args.names.now) visit)
    (restart_lines told visit.before.restarts (chain_in visit.before.length visit.length visit.answered))
    (spent_lines_at told (visit.before.visits + 1) c.args.stand)
    c.in_ok-tell_answer.ensures
    (c.in_ok-tell_restart.ensures ∙ ap (λ (chain : Option ℕ). once ++ joined (restart_lines told visit.before.restarts chain)) c.chain_after.ensures)
    (c.in_ok-tell_spent.ensures ∙ ap (λ visits. twice ++ joined (spent_lines_at told visits c.args.stand)) c.number_behind.ensures)
