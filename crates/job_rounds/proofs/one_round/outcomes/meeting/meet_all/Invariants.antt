use Rattle.std.proofs.Common.{ℕ, ◌<◌, get_or}
use Rattle.std.specs.Prelude.{All}
use Rattle.std.specs.List.{AllZip}
use mathlib.Core.List.{IsPrefix}
use Rattle.pin_store.specs.Calls.{seen_by, IsSeatOf}
use Rattle.worker_rounds.specs.declared.worker.Worker.{Worker}
use Rattle.job_rounds.specs.OfOneRound.OfOutcomes.Met.{IsSameDesk, IsSameWorker}
use Rattle.job_rounds.proofs.one_round.outcomes.meeting.meet_all.Given as goal

-- the first workers are met
abbrev pub invariant-loop-worker : goal.invariant-loop-worker
invariant-loop-worker l = record {
  desk : IsSeatOf l.store l.desk.place;
  readers : All (λ (worker : Worker). IsSeatOf l.store worker.reader.place) l.workers;
  same_desk : IsSameDesk l.initial.desk l.desk;
  same_workers : AllZip IsSameWorker l.initial.workers l.workers;
  met : (at : ℕ) (d : Worker) → at < l.worker-index → IsPrefix (seen_by (get_or l.initial.workers at d).reader.place) (seen_by l.initial.desk.place);
}
