use Rattle.std.proofs.Common.{refl}
use Rattle.round_terms.specs.Hearing.{ear_of}
use Rattle.job_rounds.specs.OfRoundState.Rounds.{store_name}
use Rattle.job_rounds.proofs.Whole.{begins}
use Rattle.job_rounds.proofs.running.run_over.Goals as goal

pub run_rounds-requires-clause-so_far : goal.run_rounds-requires-clause-so_far
run_rounds-requires-clause-so_far g c κs within =
    let first = ear_of g.E.Ear.name g.E.Ear.heard g.E.Ear.spare c.args.ear in (
      first,
      begins g.E.Ear.name g.E.Ear.heard g.E.Ear.spare (store_name c.args.store.now) c.args.job.now c.requires.loaded c.args.readers.items c.requires.readers.1 c.requires.readers.2
          (record { desk = c.args.desk; ear = c.args.ear; workers = c.in-Ok-workers_of.workers; past = c.in-Ok.past; captures = 0 })
          c.requires.desk.0 c.requires.desk.1 c.in-Ok-workers_of.ensures c.requires.readers.0 c.in-Ok.ensures.none.0 c.in-Ok.ensures.none.1 refl c.requires.spare,
    )

pub end_of-requires-clause-over : goal.end_of-requires-clause-over
end_of-requires-clause-over g c κs within =
    let first = ear_of g.E.Ear.name g.E.Ear.heard g.E.Ear.spare c.args.ear in (
      first,
      c.in_ok-course.ensures.over first (begins g.E.Ear.name g.E.Ear.heard g.E.Ear.spare (store_name c.args.store.now) c.args.job.now c.requires.loaded c.args.readers.items c.requires.readers.1 c.requires.readers.2
          (record { desk = c.args.desk; ear = c.args.ear; workers = c.in-Ok-workers_of.workers; past = c.in-Ok.past; captures = 0 })
          c.requires.desk.0 c.requires.desk.1 c.in-Ok-workers_of.ensures c.requires.readers.0 c.in-Ok.ensures.none.0 c.in-Ok.ensures.none.1 refl c.requires.spare),
    )

pub returns-clause-end : goal.returns-clause-end
returns-clause-end g c =
    let first = ear_of g.E.Ear.name g.E.Ear.heard g.E.Ear.spare c.args.ear in
    c.end_of.ensures first (c.in_ok-course.ensures.over first (begins g.E.Ear.name g.E.Ear.heard g.E.Ear.spare (store_name c.args.store.now) c.args.job.now c.requires.loaded c.args.readers.items c.requires.readers.1 c.requires.readers.2
    (record { desk = c.args.desk; ear = c.args.ear; workers = c.in-Ok-workers_of.workers; past = c.in-Ok.past; captures = 0 })
    c.requires.desk.0 c.requires.desk.1 c.in-Ok-workers_of.ensures c.requires.readers.0 c.in-Ok.ensures.none.0 c.in-Ok.ensures.none.1 refl c.requires.spare))
