-- Workers that go into threads and come back (this project's own).
use Rattle.store_history.specs.declared.places.TheConstants.{ROOTS}
use Rattle.block_codec.specs.declared.places.TheConstants.{READERS}
use Rattle.walk_ends.specs.declared.limits.TheConstants.{PACKETS_MAX}
use Rattle.std.specs.Prelude.{◌≡◌, ℕ, ◌+◌, ◌*◌, ◌<◌, ◌≤◌, ◌^◌, List, [], ◌∷◌, ◌++◌, length, map}
use Rattle.std.specs.Prelude.{slice_get, Some, IfOk, Ok}
use Rattle.std.specs.List.{AllByRecursion, AllZip}
use Rattle.tc_base.specs.declared.hook.Hook.{Hook}
use Rattle.atomic_table.specs.Seated.{TableId}
use Rattle.pcap_io.specs.declared.capture.Packet.{Packet}
use Rattle.pcap_io.specs.Captures.{AreShort}
use Rattle.block_chain.specs.Ways.{block_words}
use Rattle.pin_store.specs.Calls.{IsSeatAt, IsOutside, pin_of}
use Rattle.step_counts.specs.Seats.{Holding}
use Rattle.lawful_runs.specs.OfLogs.Logs.{LogRow}
use Rattle.worker_rounds.specs.OfLogs.Rows.{numbers_of}
use Rattle.worker_rounds.specs.declared.worker.Worker.{Worker}
use Rattle.worker_rounds.specs.Worked.{arrivals_of, HasDrawn, IsWorked}
use Rattle.job_rounds.specs.OfRoundState.Rounds.{StoreName, store_name}
use Rattle.job_rounds.specs.declared.one_round.hands.Hand.{Hand}
use Rattle.job_rounds.specs.declared.one_round.hands.Ended.{Ended}
use Rattle.job_rounds.specs.declared.one_round.hands.OfRound.{OfRound}
use Rattle.job_rounds.specs.declared.one_round.hands.Started.{Started}
use Rattle.job_rounds.specs.declared.one_round.hands.Started.TheVariants as started
use Rattle.job_rounds.specs.declared.one_round.joining.Back.{Back}
use Rattle.job_rounds.specs.declared.one_round.begun.Alone.TheVariants.{Idle}

-- ---- before
-- the worker's reader is one of the store, outside, and may go inside once more for each packet
pub record IsReady (store : StoreName) (count : ℕ) (worker : Worker) : Type 0 where
  pub own : IsSeatAt store.table store.shape worker.reader.place
  pub outside : IsOutside worker.reader.place
  pub few : pin_of worker.reader.place + 2 * count < 2 ^ 63

-- a job's workers, as many as it says, numbered from 1 in order
pub record AreReady (store : StoreName) (count many : ℕ) (workers : List Worker) : Type 0 where
  pub many_are : length workers ≡ many
  pub each : (at : ℕ) (worker : Worker) → slice_get workers at ≡ Some worker
      → (worker.number ≡ at + 1) × IsReady store count worker

-- packets that a store's readers may walk
pub record AreWalkable (store : StoreName) (packets : List Packet) : Type 0 where
  pub many : length packets ≤ PACKETS_MAX
  pub short : AreShort packets
  pub words : store.shape.words ≡ block_words
  pub roots : ROOTS ≤ store.shape.roots

-- one of so many seats of a making, which has drawn nothing
abbrev pub fresh_seat : TableId → ℕ → Holding ℕ
fresh_seat making seats = record { making = making; seats = seats; shares = 1; deeds = [] }

-- a worker that may work, with a seat of that making that has drawn nothing
pub record CanWork (store : StoreName) (making : TableId) (count : ℕ) (hand : Hand) : Type 0 where
  pub ready : IsReady store count hand.worker
  pub of_making : hand.seat.making ≡ making
  pub fresh : hand.seat.deeds ≡ []

-- the hands of a round's workers, numbered from 1 in order, who have all seats of a making
pub record AreClaimed (store : StoreName) (making : TableId) (count : ℕ) (hands : List Hand) : Type 0 where
  pub some : 0 < length hands
  pub few : length hands ≤ READERS
  pub seats : AllByRecursion (λ (hand : Hand). hand.seat ≡ fresh_seat making (length hands)) hands
  pub ready : AllByRecursion (λ (hand : Hand). IsReady store count hand.worker) hands
  pub numbered : (at : ℕ) (hand : Hand) → slice_get hands at ≡ Some hand → hand.worker.number ≡ at + 1

-- ---- behind
-- A WORKER IS BACK from its round: it is the same one, outside, its seat is that with what it drew, and where
-- memory sufficed, its log has a row for each packet that it drew
pub record HasWorked (store : StoreName) (hook : Hook) (packets : List Packet) (hand : Hand)
    (end : Ended) : Type 0 where
  pub number : end.worker.number ≡ hand.worker.number
  pub own : IsSeatAt store.table store.shape end.worker.reader.place
  pub outside : IsOutside end.worker.reader.place
  pub seat : end.seat ≡ record hand.seat { deeds = end.seat.deeds }
  pub worked : IfOk end.log (λ log. IsWorked hand.worker.number (arrivals_of hook packets) hand.worker.reader
      end.worker.reader log)
  pub drawn : IfOk end.log (λ log. HasDrawn (length packets) end.seat.deeds (numbers_of log))

-- what a promise says
abbrev pub KeepsPromise : OfRound → Ended → Type 0
KeepsPromise p end = HasWorked (store_name p.store.value) p.hook p.packets.value p.hand.value end

-- a worker has a thread, whose end will be that of its work; or has worked already, and there are no packets, or
-- the system made no thread
abbrev pub IsStartedFor : StoreName → Hook → List Packet → Hand → Started → Type 0
IsStartedFor store hook packets hand (started.There handle) =
    (end : Ended) → KeepsPromise handle.promise end → HasWorked store hook packets hand end
IsStartedFor store hook packets hand (started.Here end why) =
    HasWorked store hook packets hand end × (why ≡ Idle → packets ≡ [])

-- ALL ARE BACK: workers, seats and logs of each, in the order of the hands
pub record IsBackFrom (store : StoreName) (hook : Hook) (packets : List Packet) (hands : List Hand)
    (back : Back) : Type 0 where
  pub ends : List Ended
  pub worked : AllZip (HasWorked store hook packets) hands ends
  pub workers : back.workers.items ≡ map (λ (end : Ended). end.worker) ends
  pub seats : back.seats.items ≡ map (λ (end : Ended). end.seat) ends
  pub logs : AllZip (λ (end : Ended) (log : List LogRow). end.log ≡ Ok log) ends back.logs.items

-- one more is back, whose memory sufficed
pub record IsPut (old new : Back) (end : Ended) : Type 0 where
  pub log : List LogRow
  pub sufficed : end.log ≡ Ok log
  pub logs : new.logs.items ≡ old.logs.items ++ log ∷ []
  pub workers : new.workers.items ≡ old.workers.items ++ end.worker ∷ []
  pub seats : new.seats.items ≡ old.seats.items ++ end.seat ∷ []
