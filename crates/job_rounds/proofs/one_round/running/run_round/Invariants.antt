use Rattle.round_terms.specs.Hearing.{ear_of}
use Rattle.job_rounds.specs.OfRoundState.Views.{journal}
use Rattle.job_rounds.specs.OfRoundState.Rounds.{store_name}
use Rattle.job_rounds.proofs.one_round.running.run_round.Given as goal

-- the round that this call names
abbrev pub ghosts-run_named : goal.ghosts-run_named
ghosts-run_named g a = record {
  number = a.number;
  job = a.job.now;
  store = store_name a.store.now;
  before = journal a.desk;
  ear = ear_of g.E.Ear.name g.E.Ear.heard g.E.Ear.spare a.ear;
}
