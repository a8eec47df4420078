use Rattle.job_rounds.proofs.one_round.turns.turn_while.Goals as goal

pub returns-clause-of_round : goal.returns-clause-of_round
returns-clause-of_round g c = record {
  old = c.args.state.now;
  new = c.turn-turned.new.self;
  was = c.attest.ensures;
  stands = c.attest-2.ensures;
  turned = c.turn-turned.ensures.turned;
}
