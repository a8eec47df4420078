-- What a worker has done in a round so far (this project's own).
use Rattle.std.specs.Prelude.{◌≡◌, ℕ, ◌+◌, ◌*◌, ◌≤◌, min, fold, List, [], ◌∷◌, ◌++◌, length, map, slice_get}
use Rattle.std.specs.Prelude.{Some}
use mathlib.Core.List.{IsPrefix}
use Rattle.tc_base.specs.declared.hook.Hook.{Hook}
use Rattle.pcap_io.specs.declared.capture.Packet.{Packet}
use Rattle.pin_store.specs.Calls.{seen_by, number_of, pin_of}
use Rattle.hook_reader.specs.Seats.{HookSeat}
use Rattle.lawful_runs.specs.Given.{Arrival}
use Rattle.lawful_runs.specs.OfLogs.Logs.{LogRow, ArePointsTo, AreRows}
use Rattle.step_counts.specs.Drawn.{Drawn, IsDrawnTo}
use Rattle.worker_rounds.specs.OfWalks.Walked.{journal_of}

-- packets that come at a hook
abbrev pub arrivals_of : Hook → List Packet → List Arrival
arrivals_of hook packets = map (λ (packet : Packet). record { hook = hook; packet = packet }) packets

-- a reader's count of visits behind these walks: it stands still at its type's end
abbrev pub visits_after : ℕ → List LogRow → ℕ
visits_after visits rows =
    fold (λ (count : ℕ) (it : LogRow). min (count + length it.outcome.points) 18446744073709551615) visits rows

-- A WORKER'S ROUND SO FAR, from a reader as it was at first to the reader now: rows whose floors are past all
-- that the reader had seen at first, and no point is past what it has seen now
pub record IsWorked (worker : ℕ) (arrivals : List Arrival) (first now : HookSeat)
    (rows : List LogRow) : Type 0 where
  pub are_rows : AreRows worker first.latest (journal_of now) arrivals rows
  pub seen : (at : ℕ) (it : LogRow) → slice_get rows at ≡ Some it → ArePointsTo now.latest it.outcome.points
  pub late : first.latest ≤ now.latest
  pub grown : IsPrefix (seen_by first.place) (seen_by now.place)
  pub same : number_of now.place ≡ number_of first.place
  pub walks : pin_of now.place ≡ pin_of first.place + 2 * length rows
  pub counted : now.visits ≡ visits_after first.visits rows

-- a worker drew these numbers, which are below the count, and a last one, which isn't
abbrev pub HasDrawn : ℕ → List ℕ → List ℕ → Type 0
HasDrawn count deeds numbers = (drawn : Drawn) × IsDrawnTo count drawn × (drawn.numbers ≡ numbers)
    × (deeds ≡ drawn.numbers ++ drawn.last ∷ [])
