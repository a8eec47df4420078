-- A packet's walk is one over the states of the journal, and over one state it is the plain walk.
use Rattle.std.proofs.Common.{◌≡◌, ℕ, suc, ◌≤◌, List, [], ◌∷◌, Some, refl, ap, subst, arith}
use Rattle.std.specs.List.{slice_get}
use Rattle.filter_state.specs.declared.edit.Edit.{Edit}
use Rattle.filter_state.specs.States.{State}
use Rattle.filter_state.specs.Journals.{state_at, IsLawful}
use Rattle.state_laws.proofs.Steps.{journal_sound}
use Rattle.walk_rules.specs.Steps.{begun}
use Rattle.walk_rules.specs.Walks.{IsWalkOver}
use Rattle.walk_rules.specs.Plain.{plain_walk}
use Rattle.walk_rules.proofs.Agreeing.{GoAlong, outcomes_agree, answered_over}
use Rattle.walk_rules.proofs.Stilled.{leads_to_plain}
use Rattle.run_report.specs.declared.outcomes.Outcome.{Outcome}
use Rattle.lawful_runs.specs.Given.{Arrival}
use Rattle.walk_rules.specs.OfPoints.Points.{IsVisited}
use Rattle.lawful_runs.specs.Outcomes.{IsRecordOf, IsWalked}
use Rattle.lawful_runs.proofs.Visits.{visited, visit_at, within}

-- ---- over the states of the journal
pub walk_over : (journal : List Edit) (floor ceiling : ℕ) (arrival : Arrival) (outcome : Outcome) (it : IsWalked journal floor ceiling arrival outcome)
    → IsWalkOver (λ point. state_at point journal) arrival.hook arrival.packet.bytes outcome.points it.walk
walk_over journal floor ceiling arrival outcome it =
    let states : ℕ → State = λ point. state_at point journal in
    answered_over states (IsVisited states) (λ visits. Unit {0}) (λ before now question answer point held told. (told.0, tt)) outcome.points [] it.visits
    (begun arrival.hook arrival.packet.bytes) it.walk tt it.walks

-- ---- the points of its record
pub point_within : (journal : List Edit) (floor ceiling : ℕ) (arrival : Arrival) (outcome : Outcome) → IsWalked journal floor ceiling arrival outcome
    → (place point : ℕ) → slice_get outcome.points place ≡ Some point → (floor ≤ point) × (point ≤ ceiling)
point_within journal floor ceiling arrival outcome it place point is =
    let same = visited (λ p. state_at p journal) outcome.points [] it.visits (begun arrival.hook arrival.packet.bytes) it.walk it.walks in
    let visit = visit_at it.visits outcome.points place point same is in
    let bounds = within floor ceiling it.visits place visit.0 it.points visit.1 in
    let at = visit.2 in
    (omega (arith, bounds.0, at), omega (arith, bounds.1, at))

-- ---- at one point alone
same_states : (journal : List Edit) (point : ℕ) (points others : List ℕ) → ((place p : ℕ) → slice_get points place ≡ Some p → p ≡ point)
    → GoAlong (λ p q. state_at p journal ≡ state_at point journal) points others
same_states journal point [] others all = tt
same_states journal point (p ∷ points) [] all = tt
same_states journal point (p ∷ points) (q ∷ others) all =
    (ap (λ (n : ℕ). state_at n journal) (all 0 p refl), same_states journal point points others (λ place n is. all (suc place) n is))

pub plain_at : (journal : List Edit) (floor ceiling point : ℕ) (arrival : Arrival) (outcome : Outcome) → IsLawful journal → IsWalked journal floor ceiling arrival outcome
    → ((place p : ℕ) → slice_get outcome.points place ≡ Some p → p ≡ point) → IsRecordOf outcome (plain_walk (state_at point journal) arrival.hook arrival.packet.bytes)
plain_at journal floor ceiling point arrival outcome lawful it all =
    let s : State = state_at point journal in
    let plain = leads_to_plain s (journal_sound journal point lawful) arrival.hook arrival.packet.bytes in
    subst (IsRecordOf outcome)
    (outcomes_agree (λ p. state_at p journal) (λ p. s) outcome.points plain.0 (begun arrival.hook arrival.packet.bytes) it.walk (plain_walk s arrival.hook arrival.packet.bytes)
    (same_states journal point outcome.points plain.0 all) (walk_over journal floor ceiling arrival outcome it) plain.1) it.recorded

-- where floor and ceiling are one, so are all points
pub plain_between : (journal : List Edit) (point : ℕ) (arrival : Arrival) (outcome : Outcome) → IsLawful journal → IsWalked journal point point arrival outcome
    → IsRecordOf outcome (plain_walk (state_at point journal) arrival.hook arrival.packet.bytes)
plain_between journal point arrival outcome lawful it =
    plain_at journal point point point arrival outcome lawful it
    (λ place p is. let bounds = point_within journal point point arrival outcome it place p is in omega (arith, bounds.0, bounds.1))
