-- The round at a place of a run, with the edits and the walks before it.
use Rattle.std.proofs.Common.{◌≡◌, ◌∙◌, ℕ, zero, suc, ◌+◌, List, [], ◌∷◌, ◌++◌, length, take, Some, refl, sym, subst, append_assoc, append-nil, arith}
use Rattle.std.specs.List.{slice_get}
use Rattle.std.proofs.lemmas.List.{length-append}
use Rattle.std.proofs.lemmas.List.Sums.{sum_by-cons}
use Rattle.filter_state.specs.declared.edit.Edit.{Edit}
use Rattle.filter_state.specs.States.{no_state}
use Rattle.filter_state.specs.Journals.{state_from}
use Rattle.run_report.specs.declared.outcomes.Outcome.{Outcome}
use Rattle.run_report.specs.declared.rounds.RoundRecord.{RoundRecord}
use Rattle.run_report.specs.Counts.{accepted_count, edits_in}
use Rattle.lawful_runs.specs.Given.{GivenRound}
use Rattle.lawful_runs.specs.Lawful.{IsRound, AreRounds, outcomes_in}
use Rattle.lawful_runs.proofs.Results.{results_counted}

-- the journal is that before the round, the round's edits, and the rest
pub record IsPlayed (workers : ℕ) (rounds : List GivenRound) (before : List Edit) (earlier : List Outcome) (its : List RoundRecord) (journal : List Edit) (place : ℕ) (it : RoundRecord) : Type 0 where
  pub round : GivenRound
  pub start : List Edit
  pub edits : List Edit
  pub rest : List Edit
  pub there : slice_get rounds place ≡ Some round
  pub lawful : IsRound workers round start (earlier ++ outcomes_in (take place its)) it edits
  pub whole : journal ≡ (start ++ edits) ++ rest
  pub count : length start ≡ length before + edits_in (take place its)

-- later rounds put their edits behind
grown : (workers : ℕ) (rounds : List GivenRound) (before : List Edit) (earlier : List Outcome) (its : List RoundRecord) (journal : List Edit)
    → AreRounds workers rounds before earlier its journal → (rest : List Edit) × (journal ≡ before ++ rest)
grown workers [] before earlier [] journal is = ([], is ∙ sym (append-nil before))
grown workers [] before earlier (it ∷ its) journal is = absurd is
grown workers (round ∷ rounds) before earlier [] journal is = absurd is
grown workers (round ∷ rounds) before earlier (it ∷ its) journal (edits, one, more) =
    let rest = grown workers rounds (before ++ edits) (earlier ++ it.outcomes) its journal more in
    (edits ++ rest.0, rest.1 ∙ append_assoc before edits rest.0)

pub played_at : (workers : ℕ) (rounds : List GivenRound) (before : List Edit) (earlier : List Outcome) (its : List RoundRecord) (journal : List Edit) (place : ℕ) (it : RoundRecord)
    → AreRounds workers rounds before earlier its journal → slice_get its place ≡ Some it → IsPlayed workers rounds before earlier its journal place it
played_at workers rounds before earlier [] journal place it are is = absurd (cc is)
played_at workers [] before earlier (first ∷ its) journal place it are is = absurd are
played_at workers (round ∷ rounds) before earlier (first ∷ its) journal zero it (edits, one, more) is =
    let same : first ≡ it = cc in
    let rest = grown workers rounds (before ++ edits) (earlier ++ first.outcomes) its journal more in
    record {
      round = round;
      start = before;
      edits = edits;
      rest = rest.0;
      there = refl;
      lawful = subst (λ (seen : List Outcome). IsRound workers round before seen it edits) (sym (append-nil earlier)) (subst (λ (r : RoundRecord). IsRound workers round before earlier r edits) same one);
      whole = rest.1;
      count = omega arith;
    }
played_at workers (round ∷ rounds) before earlier (first ∷ its) journal (suc place) it (edits, one, more) is =
    let later = played_at workers rounds (before ++ edits) (earlier ++ first.outcomes) its journal place it more is in
    let here = results_counted round.batches (state_from no_state before) first.events edits one.results in
    let both = length-append before edits in
    let counts : edits_in (first ∷ take place its) ≡ accepted_count first.events + edits_in (take place its) = sum_by-cons (λ (r : RoundRecord). accepted_count r.events) first (take place its) in
    let so_far = later.count in
    record {
      round = later.round;
      start = later.start;
      edits = later.edits;
      rest = later.rest;
      there = later.there;
      lawful = subst (λ (seen : List Outcome). IsRound workers later.round later.start seen it later.edits) (append_assoc earlier first.outcomes (outcomes_in (take place its))) later.lawful;
      whole = later.whole;
      count = omega (arith, so_far, here, both, counts);
    }
