-- The walk of each packet of a run, over the journal of the whole run.
use Rattle.std.proofs.Common.{◌≡◌, ◌∙◌, ℕ, ◌+◌, List, [], ◌++◌, length, take, Some, sym, ap, subst, arith}
use Rattle.std.specs.Prelude.{max}
use Rattle.std.specs.List.{slice_get}
use Rattle.std.proofs.lemmas.List.{length-append}
use Rattle.std.proofs.lemmas.List.Sums.{sum_by_more}
use Rattle.std.proofs.lemmas.Option.{slice_get_within, get_or_from_slice_get}
use Rattle.filter_state.specs.declared.edit.Edit.{Edit}
use Rattle.filter_state.specs.States.{no_state}
use Rattle.filter_state.specs.Journals.{state_from, state_at, IsLawful}
use Rattle.walk_rules.specs.Plain.{plain_walk}
use Rattle.run_report.specs.declared.outcomes.Outcome.{Outcome}
use Rattle.run_report.specs.declared.rounds.RoundRecord.{RoundRecord}
use Rattle.run_report.specs.Counts.{accepted_count, edits_in}
use Rattle.lawful_runs.specs.Given.{Arrival, GivenRound}
use Rattle.lawful_runs.specs.Points.{seen_by}
use Rattle.lawful_runs.specs.Outcomes.{IsRecordOf, IsWalked}
use Rattle.lawful_runs.specs.Lawful.{AreRounds, outcomes_in}
use Rattle.lawful_runs.proofs.Results.{results_counted}
use Rattle.lawful_runs.proofs.Walks.{point_within, plain_at}
use Rattle.lawful_runs.proofs.Longer.{over_longer}
use Rattle.lawful_runs.proofs.Played.{played_at}

-- one round more
edits_more : (its : List RoundRecord) (place : ℕ) (it : RoundRecord) → slice_get its place ≡ Some it → edits_in (take (place + 1) its) ≡ edits_in (take place its) + accepted_count it.events
edits_more its place it is =
    sum_by_more (λ (r : RoundRecord). accepted_count r.events) its place it (slice_get_within its place it is)
    ∙ ap (λ (r : RoundRecord). edits_in (take place its) + accepted_count r.events) (get_or_from_slice_get its place it it is)

same_walk : (one other : List Edit) (floor least ceiling most : ℕ) (arrival : Arrival) (outcome : Outcome) → one ≡ other → floor ≡ least → ceiling ≡ most
    → IsWalked one floor ceiling arrival outcome → IsWalked other least most arrival outcome
same_walk one other floor least ceiling most arrival outcome whole low high it =
    subst (λ (edits : List Edit). IsWalked edits least most arrival outcome) whole
    (subst (λ (n : ℕ). IsWalked one n most arrival outcome) low (subst (λ (n : ℕ). IsWalked one floor n arrival outcome) high it))

module _ (workers : ℕ) (rounds : List GivenRound) (its : List RoundRecord) (journal : List Edit) (are : AreRounds workers rounds [] [] its journal) where
  module _ (round place : ℕ) (given : GivenRound) (it : RoundRecord) (arrival : Arrival) (outcome : Outcome) (here : slice_get rounds round ≡ Some given) (is : slice_get its round ≡ Some it)
      (came : slice_get given.arrivals place ≡ Some arrival) (ended : slice_get it.outcomes place ≡ Some outcome) where
    pub packet_walked : IsWalked journal (max (edits_in (take round its)) (seen_by outcome.worker (outcomes_in (take round its) ++ take place it.outcomes))) (edits_in (take (round + 1) its)) arrival outcome
    packet_walked =
        let played = played_at workers rounds [] [] its journal round it are is in
        let so_far : List Edit = played.start ++ played.edits in
        let seen : ℕ = seen_by outcome.worker (outcomes_in (take round its) ++ take place it.outcomes) in
        let same : given ≡ played.round = let there = played.there in cc in
        let before : length played.start ≡ edits_in (take round its) = let count = played.count in omega (arith, count) in
        let counted = results_counted played.round.batches (state_from no_state played.start) it.events played.edits played.lawful.results in
        let both = length-append played.start played.edits in
        let more = edits_more its round it is in
        let by_end : length so_far ≡ edits_in (take (round + 1) its) = omega (arith, before, counted, both, more) in
        let walked = played.lawful.walked.walked place arrival outcome (subst (λ (g : GivenRound). slice_get g.arrivals place ≡ Some arrival) same came) ended in
        same_walk (so_far ++ played.rest) journal (max (length played.start) seen) (max (edits_in (take round its)) seen) (length so_far) (edits_in (take (round + 1) its)) arrival outcome
        (sym played.whole) (ap (λ (n : ℕ). max n seen) before) by_end
        (over_longer so_far played.rest (max (length played.start) seen) (length so_far) arrival outcome (omega arith) walked)

    -- no edit: all points are one
    pub quiet_walk : IsLawful journal → accepted_count it.events ≡ 0 → IsRecordOf outcome (plain_walk (state_at (edits_in (take round its)) journal) arrival.hook arrival.packet.bytes)
    quiet_walk lawful none =
        let more = edits_more its round it is in
        let floor : ℕ = max (edits_in (take round its)) (seen_by outcome.worker (outcomes_in (take round its) ++ take place it.outcomes)) in
        let ceiling : ℕ = edits_in (take (round + 1) its) in
        plain_at journal floor ceiling (edits_in (take round its)) arrival outcome lawful packet_walked
        (λ visit point at. let bounds = point_within journal floor ceiling arrival outcome packet_walked visit point at in omega (arith, bounds.0, bounds.1, more, none))
