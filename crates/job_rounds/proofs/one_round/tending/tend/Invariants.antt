use Rattle.std.proofs.Common.{◌≡◌}
use Rattle.job_rounds.proofs.one_round.tending.tend.Given as goal

abbrev pub invariant-loop : goal.invariant-loop
invariant-loop g l = g.T.Tender.name l.tender ≡ g.T.Tender.name l.initial.tender
