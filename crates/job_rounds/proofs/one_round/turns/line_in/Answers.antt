use Rattle.job_rounds.proofs.Ifs.{some_with, none_with}
use Rattle.job_rounds.proofs.one_round.turns.line_in.Goals as goal

pub returns-clause-some : goal.returns-clause-some
returns-clause-some g c = some_with c.next_line.result (λ line next. record { state = c.args.state.now; was = c.attest.ensures; next = next }) c.next_line.ensures.line

pub returns-clause-none : goal.returns-clause-none
returns-clause-none g c = none_with c.next_line.result (λ through. record { state = c.args.state.now; was = c.attest.ensures; through = through }) c.next_line.ensures.over
