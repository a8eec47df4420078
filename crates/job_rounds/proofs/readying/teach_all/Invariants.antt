use Rattle.std.proofs.Common.{◌≡◌, ℕ, ◌≤◌, ◌<◌, length, get_or}
use Rattle.pin_store.specs.Calls.{IsSeatOf}
use Rattle.worker_rounds.specs.declared.worker.Worker.{Worker}
use Rattle.job_rounds.specs.OfRoundState.Views.{journal}
use Rattle.job_rounds.specs.OfRoundState.Rounds.{store_name}
use Rattle.job_rounds.specs.Taught.{IsTaught}
use Rattle.job_rounds.proofs.readying.teach_all.Given as goal

-- the first workers are taught, and the others are as they were
abbrev pub invariant-loop-worker : goal.invariant-loop-worker
invariant-loop-worker l = record {
  desk : IsSeatOf l.store l.desk.place;
  same_journal : journal l.desk ≡ journal l.initial.desk;
  same : (l.desk.place.me ≡ l.initial.desk.place.me) × (l.desk.left ≡ l.initial.desk.left);
  many : length l.workers ≡ length l.initial.workers;
  taught : (at : ℕ) (d : Worker) → at < l.worker-index → IsTaught (store_name l.store) (length (journal l.initial.desk)) (get_or l.initial.workers at d) (get_or l.workers at d);
  others : (at : ℕ) (d : Worker) → l.worker-index ≤ at → get_or l.workers at d ≡ get_or l.initial.workers at d;
}
