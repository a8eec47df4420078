-- What a replay keeps of a report's run is known.
use Rattle.std.proofs.Common.{◌≡◌, ◌∙◌, ℕ, ◌≤◌, List, [], ◌∷◌, length, refl, sym, ap, ap₂, subst, arith}
use Rattle.std.specs.Prelude.{filter}
use Rattle.std.proofs.lemmas.List.{length-append, length-map}
use Rattle.std.proofs.lemmas.List.Sums.{length-filter}
use Rattle.filter_state.specs.declared.edit.Edit.{Edit}
use Rattle.edit_lines.specs.declared.line.LinePlace.{LinePlace}
use Rattle.run_report.specs.declared.events.Event.{Event}
use Rattle.run_report.specs.declared.rounds.RoundRecord.{RoundRecord}
use Rattle.run_report.specs.Counts.{is_accepted, accepted_count, edits_in}
use Rattle.lawful_runs.specs.declared.loaded.LoadedJob.{LoadedJob}
use Rattle.lawful_runs.specs.Given.{IsLoaded, given_rounds}
use Rattle.lawful_runs.proofs.Rounds.{rounds_counted}
use Rattle.report_check.specs.Passed.{Replay}
use Rattle.report_check.specs.Passed.{place_of, places_of, places_in}
use Rattle.report_check.specs.Replayed.{IsReplayOf}
use Rattle.report_check.proofs.Passed.{edits_cons}
use Rattle.batch_trace.specs.Passed.{Origins, Entry, Knows, entries_of}
use Rattle.batch_trace.proofs.Passed.{entries_long}
use Rattle.report_trace.specs.Traced.{entries_in, trace_text, IsTraceOf}
use Rattle.report_trace.specs.Knowing.{entries_in_replay, IsKnown}
use Rattle.report_trace.specs.Rounds.{AreFit}
use Rattle.report_trace.proofs.Fit.{fit_rounds}
use Rattle.report_trace.proofs.OneTrace.{text_of_run}

-- as many places as accepted edits
pub places_counted : (its : List RoundRecord) → length (places_in its) ≡ edits_in its
places_counted [] = refl
places_counted (it ∷ its) =
    let own : length (places_of it.events) ≡ accepted_count it.events = length-map (filter (λ (event : Event). is_accepted event.kind) it.events) place_of ∙ length-filter (λ (event : Event). is_accepted event.kind) it.events in
    let both = length-append (places_of it.events) (places_in its) in
    let counts = edits_cons it its in
    let rest = places_counted its in
    omega (arith, own, both, counts, rest)

module _ (loaded : LoadedJob) (report : List ℕ) (replay : Replay) (it : IsReplayOf loaded report replay) where
  pub each_placed : length replay.places.items ≡ length replay.journal.items
  each_placed =
      let places = ap length it.placed in
      let counted = places_counted it.run.rounds in
      let edits = rounds_counted loaded.job.workers (given_rounds loaded) [] [] it.run.rounds replay.journal.items it.lawful.rounds in
      omega (arith, places, counted, edits)

  pub are_entries : entries_in_replay replay ≡ entries_in it.run replay.journal.items
  are_entries = ap (λ (places : List LinePlace). entries_of places replay.journal.items) it.placed

  pub is_known : (origins : Origins) (places : List LinePlace) (journal : List Edit) → places ≡ replay.places.items → journal ≡ replay.journal.items → Knows origins (entries_of places journal) → IsKnown replay origins
  is_known origins places journal p j knows = record {
    kept = it.kept;
    few = it.few;
    each = each_placed;
    knows = subst (Knows origins) (ap₂ entries_of p j) knows;
  }

  -- its packets are fit for what is known
  pub are_fit : IsLoaded loaded → AreFit loaded.job.workers (length (entries_in_replay replay)) (given_rounds loaded) it.run.rounds
  are_fit is =
      let few : length replay.journal.items ≤ 262144 = it.few in
      let many = entries_long replay.places.items replay.journal.items each_placed in
      let most : loaded.job.workers ≤ 8 = is.job.1 in
      fit_rounds loaded.job.workers (length (entries_in_replay replay)) (omega (arith, most)) (omega (arith, few, many))
      (given_rounds loaded) [] [] it.run.rounds replay.journal.items (omega (arith, many)) it.lawful.rounds

  -- THE TEXT of its trace
  pub text_told : IsLoaded loaded → (text : List ℕ) → IsTraceOf loaded report text → trace_text loaded it.run (entries_in_replay replay) ≡ text
  text_told is text traced = ap (trace_text loaded it.run) are_entries ∙ sym (text_of_run loaded report text it.run replay.journal.items is it.lawful it.reported traced)

  -- by the entries that are known
  module _ (entries : List Entry) (same : entries ≡ entries_in_replay replay) where
    pub fit_known : (workers : ℕ) → workers ≡ loaded.job.workers → IsLoaded loaded → AreFit workers (length entries) (given_rounds loaded) it.run.rounds
    fit_known workers many is =
        subst (λ (n : ℕ). AreFit n (length entries) (given_rounds loaded) it.run.rounds) (sym many)
        (subst (λ (es : List Entry). AreFit loaded.job.workers (length es) (given_rounds loaded) it.run.rounds) (sym same) (are_fit is))

    pub known_told : IsLoaded loaded → (text : List ℕ) → IsTraceOf loaded report text → trace_text loaded it.run entries ≡ text
    known_told is text traced = ap (trace_text loaded it.run) same ∙ text_told is text traced
