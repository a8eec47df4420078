-- A worker whose reader the desk has met.
use Rattle.std.proofs.Common.{◌≡◌, ◌∙◌, ℕ, ◌≤◌, ◌%◌, List, sym, ap, subst}
use mathlib.Core.List.{IsPrefix}
use Rattle.store_history.specs.declared.history.Commit.{Commit}
use Rattle.store_history.specs.History.{edits_of}
use Rattle.pin_store.specs.Calls.{seen_by, IsOutside}
use Rattle.filter_state.specs.declared.edit.Edit.{Edit}
use Rattle.lawful_runs.specs.Given.{Arrival}
use Rattle.lawful_runs.specs.OfLogs.Logs.{LogRow, AreRows, ArePointsTo}
use Rattle.hook_reader.specs.Seats.{HookSeat}
use Rattle.worker_rounds.specs.OfWalks.Walked.{journal_of}
use Rattle.worker_rounds.specs.declared.worker.Worker.{Worker}
use Rattle.worker_rounds.specs.Worked.{IsWorked}
use Rattle.job_rounds.specs.OfOneRound.OfOutcomes.Met.{IsSameWorker}

module _ (old new : Worker) (it : IsSameWorker old new) where
  seen : seen_by new.reader.place ≡ seen_by old.reader.place
  seen = ap (λ me. me.0.seen) it.me

  latest : new.reader.latest ≡ old.reader.latest
  latest = ap (λ (w : Worker). w.reader.latest) it.rest

  pub same_number : new.number ≡ old.number
  same_number = ap (λ (w : Worker). w.number) it.rest

  pub same_journal : journal_of new.reader ≡ journal_of old.reader
  same_journal = ap edits_of seen

  pub same_outside : IsOutside old.reader.place → IsOutside new.reader.place
  same_outside out = ap (λ me. me.0.pin % 2) it.me ∙ out

  pub same_worked : (number : ℕ) (arrivals : List Arrival) (first : HookSeat) (rows : List LogRow) → IsWorked number arrivals first old.reader rows → IsWorked number arrivals first new.reader rows
  same_worked number arrivals first rows done = record {
    are_rows = subst (λ (j : List Edit). AreRows number first.latest j arrivals rows) (sym same_journal) done.are_rows;
    seen = λ at row is. subst (λ (n : ℕ). ArePointsTo n row.outcome.points) (sym latest) (done.seen at row is);
    late = subst (λ (n : ℕ). first.latest ≤ n) (sym latest) done.late;
    grown = subst (λ (cs : List (Commit Edit)). IsPrefix (seen_by first.place) cs) (sym seen) done.grown;
    same = ap (λ me. me.0.number) it.me ∙ done.same;
    walks = ap (λ me. me.0.pin) it.me ∙ done.walks;
    counted = ap (λ (w : Worker). w.reader.visits) it.rest ∙ done.counted;
  }
