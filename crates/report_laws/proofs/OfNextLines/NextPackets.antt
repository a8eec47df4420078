-- The next packet's line.
use Rattle.std.proofs.Common.{◌≡◌, ◌∙◌, ℕ, suc, ◌+◌, ◌≤◌, List, [], ◌∷◌, ◌++◌, length, map, Option, Some, None, refl, sym, ap, subst, ◌⊎◌, inl, inr}
use Rattle.std.specs.Prelude.{max}
use Rattle.std.specs.List.{slice_get}
use Rattle.filter_state.specs.declared.edit.Edit.{Edit}
use Rattle.filter_state.specs.Journals.{state_at}
use Rattle.walk_rules.specs.Steps.{Execution, begun}
use Rattle.walk_rules.specs.Walks.{Outcome as WalkOutcome}
use Rattle.run_report.specs.declared.outcomes.Outcome.{Outcome}
use Rattle.run_report.specs.declared.rounds.RoundRecord.{RoundRecord}
use Rattle.lawful_runs.specs.Given.{Arrival, GivenRound}
use Rattle.walk_rules.specs.OfPoints.Points.{Visit, AreLawfulPoints}
use Rattle.lawful_runs.specs.Points.{seen_by}
use Rattle.lawful_runs.specs.Outcomes.{IsRecordOf, IsWalked}
use Rattle.lawful_runs.specs.Events.{AreInOrder}
use Rattle.lawful_runs.specs.Lawful.{outcomes_in}
use Rattle.point_walks.specs.Visits.{visits_over}
use Rattle.report_laws.specs.OfNextLines.Walks.{answers_of, recorded_by, WalksAt}
use Rattle.report_laws.proofs.OfNextLines.Walked.{walked, stood}

-- a walk at lawful points is a packet's walk
pub is_walked : (journal : List Edit) (floor ceiling worker : ℕ) (arrival : Arrival) (points : List ℕ) (walk : WalkOutcome) → WalksAt journal floor ceiling arrival points walk
    → IsWalked journal floor ceiling arrival (recorded_by worker points walk)
is_walked journal floor ceiling worker arrival points walk at =
    let it = walked journal (begun arrival.hook arrival.packet.bytes) at.end points refl refl at.stands at.over in
    let same : it.walk ≡ walk = let both : ◌≡◌ {A = Option WalkOutcome} (Some it.walk) (Some walk) = sym it.outcome ∙ at.outcome in cc both in
    subst (λ (w : WalkOutcome). IsWalked journal floor ceiling arrival (recorded_by worker points w)) same (record {
      walk = it.walk;
      visits = visits_over (answers_of journal) (begun arrival.hook arrival.packet.bytes) points;
      walks = it.walks;
      recorded = record { verdict = refl; bytes = refl; meta = refl; executed = refl };
      points = at.lawful;
    })

-- and a packet's walk is one at its points
pub walks_at : (journal : List Edit) (floor ceiling : ℕ) (arrival : Arrival) (outcome : Outcome) → IsWalked journal floor ceiling arrival outcome
    → (walk : WalkOutcome) × WalksAt journal floor ceiling arrival outcome.points walk × (outcome ≡ recorded_by outcome.worker outcome.points walk)
walks_at journal floor ceiling arrival outcome it =
    let has = stood journal [] it.visits (begun arrival.hook arrival.packet.bytes) outcome.points it.walk it.walks in
    let recorded = it.recorded in (
      it.walk,
      record { end = has.end; stands = has.stands; over = has.over; outcome = has.outcome; lawful = subst (AreLawfulPoints floor ceiling) has.visits it.points },
      ap (λ v. record { worker = outcome.worker; verdict = v; bytes = outcome.bytes; meta = outcome.meta; points = outcome.points; executed = outcome.executed }) recorded.verdict
          ∙ ap (λ b. record { worker = outcome.worker; verdict = it.walk.verdict; bytes = b; meta = outcome.meta; points = outcome.points; executed = outcome.executed }) recorded.bytes
          ∙ ap (λ m. record { worker = outcome.worker; verdict = it.walk.verdict; bytes = it.walk.frame.bytes; meta = m; points = outcome.points; executed = outcome.executed }) recorded.meta
          ∙ ap (λ e. record { worker = outcome.worker; verdict = it.walk.verdict; bytes = it.walk.frame.bytes; meta = it.walk.frame.meta; points = outcome.points; executed = e }) recorded.executed,
    )
