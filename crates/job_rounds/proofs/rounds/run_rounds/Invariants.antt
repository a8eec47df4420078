use Rattle.std.proofs.Common.{◌≡◌, ◌-◌, length}
use Rattle.round_terms.specs.Hearing.{EarView}
use Rattle.job_rounds.specs.OfRoundState.Rounds.{store_name}
use Rattle.job_rounds.specs.SoFar.{IsSoFar, HasRoom}
use Rattle.job_rounds.proofs.rounds.run_rounds.Given as goal

-- the run is behind so many rounds, and there is room for the others
abbrev pub invariant-loop-over : goal.invariant-loop-over
invariant-loop-over g l = record {
  so_far : (first : EarView) → IsSoFar g.E.Ear.name g.E.Ear.heard g.E.Ear.spare (store_name l.store) l.job first 0 l.initial.course → IsSoFar g.E.Ear.name g.E.Ear.heard g.E.Ear.spare (store_name l.store) l.job first l.over l.course;
  room : HasRoom (length l.job.job.rounds - l.over) l.course.past;
  same_tender : g.T.Tender.name l.tender ≡ g.T.Tender.name l.initial.tender;
}
