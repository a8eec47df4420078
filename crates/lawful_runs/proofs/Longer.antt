-- A walk over a journal is one over each longer journal: its points name the same states.
use Rattle.std.proofs.Common.{◌≡◌, ℕ, suc, ◌≤◌, List, [], ◌∷◌, ◌++◌, length, Some, refl, sym, ap, subst, arith}
use Rattle.std.specs.List.{slice_get}
use Rattle.std.proofs.lemmas.List.{take-append-le}
use Rattle.filter_state.specs.declared.edit.Edit.{Edit}
use Rattle.filter_state.specs.States.{State, no_state}
use Rattle.filter_state.specs.Journals.{state_from, state_at}
use Rattle.walk_rules.specs.Answers.{answer_of}
use Rattle.walk_rules.specs.Steps.{Standing, begun, after}
use Rattle.walk_rules.specs.Walks.{Outcome as WalkOutcome, IsWalk}
use Rattle.run_report.specs.declared.outcomes.Outcome.{Outcome}
use Rattle.lawful_runs.specs.Given.{Arrival}
use Rattle.walk_rules.specs.OfPoints.Points.{Visit, IsVisited}
use Rattle.lawful_runs.specs.Outcomes.{IsWalked}
use Rattle.lawful_runs.proofs.Walks.{point_within}

state_kept : (journal rest : List Edit) (point : ℕ) → point ≤ length journal → state_at point journal ≡ state_at point (journal ++ rest)
state_kept journal rest point within = ap (state_from no_state) (sym (take-append-le point journal rest within))

-- other states that are the same at the points of the walk
other_states : (states others : ℕ → State) (points : List ℕ) (before now : List Visit) (st : Standing) (walk : WalkOutcome) → ((place point : ℕ) → slice_get points place ≡ Some point → states point ≡ others point)
    → IsWalk (IsVisited states) before st points now walk → IsWalk (IsVisited others) before st points now walk
other_states states others [] before now st walk same is = is
other_states states others (point ∷ points) before now st walk same (question, answer, between, asked, (answered, then), rest) = (
  question,
  answer,
  between,
  asked,
  (subst (λ (s : State). answer_of s question ≡ Some answer) (same 0 point refl) answered, then),
  other_states states others points between now (after st answer) walk (λ place p is. same (suc place) p is) rest,
)

pub over_longer : (journal rest : List Edit) (floor ceiling : ℕ) (arrival : Arrival) (outcome : Outcome) → ceiling ≤ length journal
    → IsWalked journal floor ceiling arrival outcome → IsWalked (journal ++ rest) floor ceiling arrival outcome
over_longer journal rest floor ceiling arrival outcome short it = record {
  walk = it.walk;
  visits = it.visits;
  walks = other_states (λ point. state_at point journal) (λ point. state_at point (journal ++ rest)) outcome.points [] it.visits (begun arrival.hook arrival.packet.bytes) it.walk
      (λ place point is. let most = (point_within journal floor ceiling arrival outcome it place point is).1 in state_kept journal rest point (omega (arith, most, short))) it.walks;
  recorded = it.recorded;
  points = it.points;
}
