-- The journal that rounds come to, one after the other.
use Rattle.std.proofs.Common.{◌≡◌, ℕ, ◌+◌, ◌≤◌, List, [], ◌∷◌, ◌++◌, length, Some, sym, ap, subst, arith}
use Rattle.std.specs.List.{slice_get}
use Rattle.std.proofs.lemmas.List.{length-append}
use Rattle.std.proofs.lemmas.List.Sums.{sum_by-cons}
use Rattle.filter_state.specs.declared.edit.Edit.{Edit}
use Rattle.filter_state.specs.States.{no_state}
use Rattle.filter_state.specs.Sound.{Each}
use Rattle.filter_state.specs.Journals.{state_from, IsLawful}
use Rattle.filter_state.proofs.Pairs.{each_append}
use Rattle.run_report.specs.declared.outcomes.Outcome.{Outcome}
use Rattle.run_report.specs.declared.rounds.RoundRecord.{RoundRecord}
use Rattle.run_report.specs.Counts.{accepted_count, edits_in}
use Rattle.lawful_runs.specs.Given.{Arrival, GivenRound}
use Rattle.lawful_runs.specs.Outcomes.{AreWalked}
use Rattle.lawful_runs.specs.Lawful.{AreRounds, outcomes_in}
use Rattle.lawful_runs.proofs.Places.{each_from, one_there}
use Rattle.lawful_runs.proofs.Journals.{lawful_append}
use Rattle.lawful_runs.proofs.Results.{results_lawful, results_counted}
use Rattle.lawful_runs.proofs.Walks.{point_within}

pub rounds_lawful : (workers : ℕ) (rounds : List GivenRound) (before : List Edit) (earlier : List Outcome) (its : List RoundRecord) (journal : List Edit)
    → AreRounds workers rounds before earlier its journal → IsLawful before → IsLawful journal
rounds_lawful workers [] before earlier [] journal is lawful = subst IsLawful (sym is) lawful
rounds_lawful workers [] before earlier (it ∷ its) journal is lawful = absurd is
rounds_lawful workers (round ∷ rounds) before earlier [] journal is lawful = absurd is
rounds_lawful workers (round ∷ rounds) before earlier (it ∷ its) journal (edits, one, more) lawful =
    rounds_lawful workers rounds (before ++ edits) (earlier ++ it.outcomes) its journal more
    (lawful_append no_state before edits lawful (results_lawful round.batches (state_from no_state before) it.events edits one.results))

pub rounds_counted : (workers : ℕ) (rounds : List GivenRound) (before : List Edit) (earlier : List Outcome) (its : List RoundRecord) (journal : List Edit)
    → AreRounds workers rounds before earlier its journal → length journal ≡ length before + edits_in its
rounds_counted workers [] before earlier [] journal is = let same = ap length is in omega (arith, same)
rounds_counted workers [] before earlier (it ∷ its) journal is = absurd is
rounds_counted workers (round ∷ rounds) before earlier [] journal is = absurd is
rounds_counted workers (round ∷ rounds) before earlier (it ∷ its) journal (edits, one, more) =
    let others = rounds_counted workers rounds (before ++ edits) (earlier ++ it.outcomes) its journal more in
    let here = results_counted round.batches (state_from no_state before) it.events edits one.results in
    let both = length-append before edits in
    let counts : edits_in (it ∷ its) ≡ accepted_count it.events + edits_in its = sum_by-cons (λ (r : RoundRecord). accepted_count r.events) it its in
    omega (arith, others, here, both, counts)

-- ---- points
-- no point of the walk is past that one
abbrev pub IsUpTo : ℕ → Outcome → Type 0
IsUpTo most outcome = (visit point : ℕ) → slice_get outcome.points visit ≡ Some point → point ≤ most

walked_up_to : (workers : ℕ) (journal : List Edit) (before ceiling most : ℕ) (earlier : List Outcome) (arrivals : List Arrival) (outcomes : List Outcome) → ceiling ≤ most
    → AreWalked workers journal before ceiling earlier arrivals outcomes → Each (IsUpTo most) outcomes
walked_up_to workers journal before ceiling most earlier arrivals outcomes less walked =
    each_from (IsUpTo most) outcomes (λ place outcome is visit point at.
    let arrival = one_there arrivals outcomes place outcome walked.one_each is in
    let bounds = point_within journal _ ceiling arrival.0 outcome (walked.walked place arrival.0 outcome arrival.1 is) visit point at in
    let low : point ≤ ceiling = bounds.1 in
    omega (arith, low, less))

pub rounds_up_to : (workers : ℕ) (rounds : List GivenRound) (before : List Edit) (earlier : List Outcome) (its : List RoundRecord) (journal : List Edit)
    → AreRounds workers rounds before earlier its journal → Each (IsUpTo (length journal)) (outcomes_in its)
rounds_up_to workers [] before earlier [] journal is = tt
rounds_up_to workers [] before earlier (it ∷ its) journal is = absurd is
rounds_up_to workers (round ∷ rounds) before earlier [] journal is = absurd is
rounds_up_to workers (round ∷ rounds) before earlier (it ∷ its) journal (edits, one, more) =
    let grown = rounds_counted workers rounds (before ++ edits) (earlier ++ it.outcomes) its journal more in
    each_append (IsUpTo (length journal)) it.outcomes (outcomes_in its)
    (walked_up_to workers (before ++ edits) (length before) (length (before ++ edits)) (length journal) earlier round.arrivals it.outcomes (omega (arith, grown)) one.walked)
    (rounds_up_to workers rounds (before ++ edits) (earlier ++ it.outcomes) its journal more)
