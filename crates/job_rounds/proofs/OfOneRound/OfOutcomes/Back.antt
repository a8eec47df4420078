-- The rows of workers whose readers the desk has met.
use Rattle.std.proofs.Common.{◌≡◌, ◌∙◌, ℕ, ◌+◌, List, length, Ok, Err, sym}
use Rattle.std.specs.Prelude.{Result, IfOk}
use mathlib.Core.List.{IsPrefix}
use Rattle.store_history.proofs.Histories.{prefix_trans}
use Rattle.filter_state.specs.declared.edit.Edit.{Edit}
use Rattle.run_report.specs.declared.outcomes.Outcome.{Outcome}
use Rattle.lawful_runs.specs.Given.{Arrival}
use Rattle.lawful_runs.specs.Outcomes.{AreWalked}
use Rattle.lawful_runs.specs.OfLogs.Logs.{LogRow, AreRows, AreLogs, ArePlaced}
use Rattle.lawful_runs.proofs.OfLogs.Logged.{round_walked}
use Rattle.worker_rounds.specs.OfWalks.Walked.{journal_of}
use Rattle.job_rounds.specs.OfOneRound.OfOutcomes.Met.{AreBack}

-- over a longer journal
rows_longer : (worker start : ℕ) (old new : List Edit) (arrivals : List Arrival) (rows : List LogRow) → IsPrefix old new → AreRows worker start old arrivals rows → AreRows worker start new arrivals rows
rows_longer worker start old new arrivals rows longer are = λ at it is.
    let own = are at it is in
    record {
      arrival = own.arrival;
      there = own.there;
      seen = own.seen;
      beginning = prefix_trans own.seen old new own.beginning longer;
      floor = own.floor;
      walked = own.walked;
      by = own.by;
      least = own.least;
      behind = own.behind;
    }

logs_back : (journal : List Edit) (before : ℕ) (earlier : List Outcome) (arrivals : List Arrival) (logs : List (List LogRow)) → AreBack journal before earlier arrivals logs → AreLogs journal before earlier arrivals logs
logs_back journal before earlier arrivals logs are = λ index rows is.
    let it = are index rows is in
    record {
      start = it.first.reader.latest;
      are_rows = rows_longer (index + 1) it.first.reader.latest (journal_of it.last.reader) journal arrivals rows it.met it.worked.are_rows;
      late = it.late;
      seen = it.seen;
    }

pub settled : {E : Type 0} (logs : List (List LogRow)) (count : ℕ) (r : Result (List Outcome) E) → IfOk r (λ outcomes. ArePlaced logs outcomes) → IfOk r (λ outcomes. length outcomes ≡ count)
    → IfOk r (λ outcomes. (journal : List Edit) (before : ℕ) (earlier : List Outcome) (arrivals : List Arrival) → AreBack journal before earlier arrivals logs → length arrivals ≡ count
    → AreWalked (length logs) journal before (length journal) earlier arrivals outcomes)
settled logs count (Ok outcomes) placed many = λ journal before earlier arrivals are long.
    round_walked journal before earlier arrivals logs outcomes (logs_back journal before earlier arrivals logs are) placed (many ∙ sym long)
settled logs count (Err e) placed many = tt
