-- The steps that are told of a packet are the visits of its lawful walk.
use Rattle.std.proofs.Common.{◌≡◌, ℕ, ◌+◌, List, get_or, take, Some, sym, subst, arith}
use Rattle.std.specs.Prelude.{max, ◌++◌, []}
use Rattle.std.specs.List.{slice_get}
use Rattle.filter_state.specs.declared.edit.Edit.{Edit}
use Rattle.filter_state.specs.Journals.{state_at}
use Rattle.walk_rules.specs.declared.limits.TheConstants.{VISITS_MAX}
use Rattle.walk_rules.specs.Answers.{answer_of}
use Rattle.walk_rules.specs.Steps.{begun}
use Rattle.walk_rules.specs.Walks.{outcome_of}
use Rattle.run_report.specs.declared.outcomes.Outcome.{Outcome}
use Rattle.run_report.specs.declared.rounds.RoundRecord.{RoundRecord}
use Rattle.run_report.specs.declared.record.RunRecord.{RunRecord}
use Rattle.run_report.specs.Counts.{edits_in}
use Rattle.lawful_runs.specs.declared.loaded.LoadedJob.{LoadedJob}
use Rattle.lawful_runs.specs.Given.{Arrival, GivenRound, given_rounds}
use Rattle.lawful_runs.specs.Points.{seen_by}
use Rattle.lawful_runs.specs.Outcomes.{IsWalked}
use Rattle.lawful_runs.specs.Lawful.{IsRunWith, outcomes_in}
use Rattle.lawful_runs.proofs.Packets.{packet_walked}
use Rattle.lawful_runs.proofs.Rounds.{rounds_counted}
use Rattle.report_check.specs.Passed.{places_in}
use Rattle.batch_trace.specs.Passed.{edits_of}
use Rattle.batch_trace.proofs.Passed.{edits_are}
use Rattle.trace_lines.specs.Steps.{Step, steps_of}
use Rattle.walk_trace.specs.Traces.{stands_behind}
use Rattle.walk_trace.specs.Visited.{AreVisits}
use Rattle.walk_trace.proofs.Walks.{all_traced}
use Rattle.report_trace.specs.Traced.{entries_in}
use Rattle.report_trace.specs.Visited.{IsToldAsWalked}
use Rattle.report_trace.proofs.Kept.{places_counted}

-- the edits with their places are the journal's
same_edits : (loaded : LoadedJob) (run : RunRecord) (journal : List Edit) → IsRunWith loaded run journal → edits_of (entries_in run journal) ≡ journal
same_edits loaded run journal is =
    let counted = places_counted run.rounds in
    let edits = rounds_counted loaded.job.workers (given_rounds loaded) [] [] run.rounds journal is.rounds in
    edits_are (places_in run.rounds) journal (omega (arith, counted, edits))

-- the steps over the states of these edits
abbrev steps_over : List Edit → Arrival → List ℕ → List Step
steps_over edits arrival points =
    steps_of (λ point. answer_of (state_at point edits)) (λ visit. get_or points visit 0) VISITS_MAX (begun arrival.hook arrival.packet.bytes)

told_as : (loaded : LoadedJob) (run : RunRecord) (journal : List Edit) (floor ceiling : ℕ) (arrival : Arrival) (outcome : Outcome) → IsRunWith loaded run journal → IsWalked journal floor ceiling arrival outcome
    → IsToldAsWalked (entries_in run journal) journal floor ceiling arrival outcome
told_as loaded run journal floor ceiling arrival outcome is it =
    let traced = all_traced (λ (point : ℕ). state_at point journal) arrival.hook arrival.packet.bytes outcome.points it.visits it.walk it.walks in
    let edits = sym (same_edits loaded run journal is) in
    record {
      walked = it;
      visits = subst (λ (es : List Edit). AreVisits (steps_over es arrival outcome.points) it.visits) edits (subst (AreVisits (steps_over journal arrival outcome.points)) (sym traced.behind) traced.same);
      ends = subst (λ (es : List Edit). outcome_of (stands_behind (begun arrival.hook arrival.packet.bytes) (steps_over es arrival outcome.points)) ≡ Some it.walk) edits traced.ends;
    }

pub lawful_visits : (loaded : LoadedJob) (run : RunRecord) (journal : List Edit) (round place : ℕ) (given : GivenRound) (it : RoundRecord) (arrival : Arrival) (outcome : Outcome) → IsRunWith loaded run journal
    → slice_get (given_rounds loaded) round ≡ Some given → slice_get run.rounds round ≡ Some it → slice_get given.arrivals place ≡ Some arrival → slice_get it.outcomes place ≡ Some outcome
    → IsToldAsWalked (entries_in run journal) journal (max (edits_in (take round run.rounds)) (seen_by outcome.worker (outcomes_in (take round run.rounds) ++ take place it.outcomes))) (edits_in (take (round + 1) run.rounds)) arrival outcome
lawful_visits loaded run journal round place given it arrival outcome is here round_is came ended =
    told_as loaded run journal (max (edits_in (take round run.rounds)) (seen_by outcome.worker (outcomes_in (take round run.rounds) ++ take place it.outcomes))) (edits_in (take (round + 1) run.rounds)) arrival outcome is
    (packet_walked loaded.job.workers (given_rounds loaded) run.rounds journal is.rounds round place given it arrival outcome here round_is came ended)
