-- The record of a walk.
use Rattle.std.proofs.Common.{◌≡◌, ◌∙◌, ℕ, ◌==◌, Bool, true, false, cond, List, [], ◌∷◌, length, map, Option, Some, None, refl, sym, ap, subst}
use Rattle.std.specs.Prelude.{IfSome}
use Rattle.walk_rules.specs.declared.limits.TheConstants.{VISITS_MAX}
use Rattle.filter_state.specs.Journals.{state_at}
use Rattle.tc_base.specs.declared.hook.Hook.{Hook}
use Rattle.walk_rules.specs.declared.verdict.Verdict.TheVariants as verdicts
use Rattle.walk_rules.specs.Steps.{Execution, Place, at_head, at_mask, at_action, ended, Standing, begun}
use Rattle.walk_rules.specs.Walks.{Outcome as WalkOutcome, IsWalk, outcome_with, outcome_at, outcome_of}
use Rattle.walk_steps.specs.Told.{execution}
use Rattle.walk_steps.specs.Walking.{Walking}
use Rattle.walk_rules.specs.OfPoints.Points.{IsVisited}
use Rattle.run_report.specs.declared.outcomes.Outcome.{Outcome}
use Rattle.hook_reader.specs.Seats.{HookSeat}
use Rattle.lawful_runs.specs.Given.{Arrival}
use Rattle.lawful_runs.specs.Outcomes.{IsRecordOf, IsWalked}
use Rattle.worker_rounds.specs.OfWalks.Walked.{journal_of, IsWalkedBy}

-- ---- how a walk ended
by_visits : (b : Bool) (st : Standing) (o : WalkOutcome) → cond b (Some (outcome_with verdicts.Drop st)) None ≡ Some o → (o.frame ≡ st.frame) × (o.executed ≡ st.executed)
by_visits true st o is =
    let same : o ≡ outcome_with verdicts.Drop st = cc in
    (ap (λ (w : WalkOutcome). w.frame) same, ap (λ (w : WalkOutcome). w.executed) same)
by_visits false st o is = absurd (cc is)

end_at : (place : Place) (st : Standing) (o : WalkOutcome) → outcome_at place st ≡ Some o → (o.frame ≡ st.frame) × (o.executed ≡ st.executed)
end_at at_head st o is = by_visits (st.visits == VISITS_MAX) st o is
end_at (at_mask head masks tables) st o is = by_visits (st.visits == VISITS_MAX) st o is
end_at (at_action head actions position jumps tables) st o is = by_visits (st.visits == VISITS_MAX) st o is
end_at (ended verdict) st o is =
    let same : o ≡ outcome_with verdict st = cc in
    (ap (λ (w : WalkOutcome). w.frame) same, ap (λ (w : WalkOutcome). w.executed) same)

pub end_of_walk : (st : Standing) (o : WalkOutcome) → outcome_of st ≡ Some o → (o.frame ≡ st.frame) × (o.executed ≡ st.executed)
end_of_walk st o is = end_at st.place st o is

-- ---- pairs as executions, and back
back_again : (pairs : List (ℕ × ℕ)) → pairs ≡ map (λ (e : Execution). (e.serial, e.length)) (map execution pairs)
back_again [] = refl
back_again (pair ∷ pairs) = ap (λ (ps : List (ℕ × ℕ)). pair ∷ ps) (back_again pairs)

pub executed_are : (pairs : List (ℕ × ℕ)) (executed : List Execution) → map execution pairs ≡ executed → pairs ≡ map (λ (e : Execution). (e.serial, e.length)) executed
executed_are pairs executed same = back_again pairs ∙ ap (map (λ (e : Execution). (e.serial, e.length))) same

pub some_holds : {X : Type 0} (P : X → Type 0) (o : Option X) (x : X) → o ≡ Some x → IfSome o P → P x
some_holds P None x is holds = absurd (cc is)
some_holds P (Some y) x is holds = let same : y ≡ x = cc is in subst P same holds

-- ---- a recorded walk at a reader
pub walked_of : (before now : HookSeat) (hook : Hook) (bytes : List ℕ) (walk : Walking) (outcome : Outcome) (arrival : Arrival) → IsWalkedBy before now hook bytes walk
    → ((done : WalkOutcome) → outcome_of walk.standing ≡ Some done → IsRecordOf outcome done) → outcome.points ≡ walk.points → arrival.hook ≡ hook → arrival.packet.bytes ≡ bytes
    → IsWalked (journal_of now) before.latest (length (journal_of now)) arrival outcome
walked_of before now hook bytes walk outcome arrival it recorded points hook_is bytes_are = record {
  walk = it.outcome;
  visits = it.visits;
  walks = subst (λ (ps : List ℕ). IsWalk (IsVisited (λ point. state_at point (journal_of now))) [] (begun arrival.hook arrival.packet.bytes) ps it.visits it.outcome) (sym points)
      (subst (λ (h : Hook). IsWalk (IsVisited (λ point. state_at point (journal_of now))) [] (begun h arrival.packet.bytes) walk.points it.visits it.outcome) (sym hook_is)
      (subst (λ (bs : List ℕ). IsWalk (IsVisited (λ point. state_at point (journal_of now))) [] (begun hook bs) walk.points it.visits it.outcome) (sym bytes_are) it.walks));
  recorded = recorded it.outcome it.ended;
  points = it.points;
}
