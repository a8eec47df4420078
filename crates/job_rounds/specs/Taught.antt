-- A worker that has learnt what the desk has seen (this project's own).
use Rattle.std.specs.Prelude.{◌≡◌, ℕ, max, List}
use Rattle.std.specs.List.{AllZip}
use Rattle.pin_store.specs.Calls.{IsSeatAt, IsOutside, pin_of}
use Rattle.worker_rounds.specs.declared.worker.Worker.{Worker}
use Rattle.job_rounds.specs.OfRoundState.Rounds.{StoreName}

-- its reader is one of the store, outside
pub record IsAway (store : StoreName) (worker : Worker) : Type 0 where
  pub own : IsSeatAt store.table store.shape worker.reader.place
  pub outside : IsOutside worker.reader.place

-- it is the same worker, and has seen so many edits
pub record IsTaught (store : StoreName) (edits : ℕ) (old new : Worker) : Type 0 where
  pub number : new.number ≡ old.number
  pub away : IsAway store new
  pub pin : pin_of new.reader.place ≡ pin_of old.reader.place
  pub visits : new.reader.visits ≡ old.reader.visits
  pub latest : new.reader.latest ≡ max old.reader.latest edits

abbrev pub AreTaught : StoreName → ℕ → List Worker → List Worker → Type 0
AreTaught store edits old new = AllZip (IsTaught store edits) old new
