-- A hook for the workers of a job (this project's own).
use Rattle.std.specs.Prelude.{◌≡◌, ℕ, ◌+◌, List, [], length, All, slice_get, Some}
use Rattle.pin_store.specs.Calls.{IsSeatOf, IsOutside, IsNewReader}
use Rattle.desk_parts.specs.Desk.{hook_shape}
use Rattle.shared_hook.specs.Views.{journal, IsUnused}
use Rattle.hook_reader.specs.Seats.{HookSeat}
use Rattle.worker_rounds.specs.declared.worker.Worker.{Worker}
use Rattle.job_rounds.specs.declared.hooks.Hooks.{Hooks}

-- its journal is empty, and it has so many readers, which were never inside and have seen nothing
pub record AreNewHooks (workers : ℕ) (hooks : Hooks) : Type 0 where
  pub shape : hooks.store.shape ≡ hook_shape
  pub desk : IsSeatOf hooks.store hooks.desk.place
  pub new : journal hooks.desk ≡ []
  pub many : length hooks.readers.items ≡ workers
  pub readers : All (λ reader. IsNewReader hooks.store reader.place) hooks.readers.items
  pub unused : All IsUnused hooks.readers.items

-- behind a run: the hook is of the same store, with as many readers of it, all of them outside
pub record AreHooksOf (old new : Hooks) : Type 0 where
  pub store : new.store ≡ old.store
  pub desk : IsSeatOf new.store new.desk.place
  pub many : length new.readers.items ≡ length old.readers.items
  pub readers : All (λ reader. IsSeatOf new.store reader.place × IsOutside reader.place) new.readers.items

-- a worker for each reader, numbered from 1
pub record AreWorkersOf (readers : List HookSeat) (workers : List Worker) : Type 0 where
  pub many : length workers ≡ length readers
  pub each : (at : ℕ) (worker : Worker) → slice_get workers at ≡ Some worker
      → (worker.number ≡ at + 1) × (slice_get readers at ≡ Some worker.reader)
