-- What a whole job leaves (this project's own).
use Rattle.std.specs.Prelude.{◌≡◌, ℕ, List, ◌++◌, length, All, Option, option_map}
use Rattle.pin_store.specs.Calls.{IsSeatAt, IsOutside}
use Rattle.tc_base.specs.declared.ear.EventName.{EventName}
use Rattle.lawful_runs.specs.declared.loaded.LoadedJob.{LoadedJob}
use Rattle.lawful_runs.specs.Lawful.{IsRunWith}
use Rattle.round_terms.specs.Hearing.{EarView}
use Rattle.job_rounds.specs.OfRoundState.Views.{journal}
use Rattle.job_rounds.specs.OfRoundState.Rounds.{StoreName, IsDeskOf}
use Rattle.job_rounds.specs.declared.running.JobEnd.{JobEnd}
use Rattle.job_rounds.specs.Names.{names_in}
use Rattle.job_rounds.specs.Visited.{HaveVisited}

-- a lawful run whose journal is the desk's, whose readers are of the store, outside, and made as many visits as it
-- tells, and what the ear has heard of it
pub record IsJobEnd {E : Type 0} (name : E → ℕ) (heard : E → Option (List EventName)) (store : StoreName)
    (job : LoadedJob) (first : EarView) (end : JobEnd E) : Type 0 where
  pub run : IsRunWith job end.run (journal end.desk)
  pub desk : IsDeskOf store end.desk
  pub many : length end.readers.items ≡ job.job.workers
  pub readers : All (λ reader. IsSeatAt store.table store.shape reader.place × IsOutside reader.place)
      end.readers.items
  pub visited : HaveVisited end.run.rounds end.readers.items
  pub name_is : name end.ear ≡ first.name
  pub heard_is : heard end.ear ≡ option_map (λ names. names ++ names_in end.run.rounds) first.heard
