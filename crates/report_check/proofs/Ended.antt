-- A walk that has ended, as its record has it.
use Rattle.std.proofs.Common.{◌≡◌, ◌∙◌, ℕ, ◌==◌, Bool, true, false, cond, List, [], ◌∷◌, map, Some, None, refl, sym, ap}
use Rattle.walk_rules.specs.declared.limits.TheConstants.{VISITS_MAX}
use Rattle.walk_rules.specs.declared.verdict.Verdict.TheVariants as verdicts
use Rattle.walk_rules.specs.Steps.{Execution, Place, at_head, at_mask, at_action, ended, Standing}
use Rattle.walk_rules.specs.Walks.{Outcome as WalkOutcome, outcome_with, outcome_at, outcome_of}
use Rattle.walk_steps.specs.Told.{execution}

by_visits : (b : Bool) (st : Standing) (o : WalkOutcome) → cond b (Some (outcome_with verdicts.Drop st)) None ≡ Some o → o.executed ≡ st.executed
by_visits true st o is = let same : o ≡ outcome_with verdicts.Drop st = cc in ap (λ (w : WalkOutcome). w.executed) same
by_visits false st o is = absurd (cc is)

end_at : (place : Place) (st : Standing) (o : WalkOutcome) → outcome_at place st ≡ Some o → o.executed ≡ st.executed
end_at at_head st o is = by_visits (st.visits == VISITS_MAX) st o is
end_at (at_mask head masks tables) st o is = by_visits (st.visits == VISITS_MAX) st o is
end_at (at_action head actions position jumps tables) st o is = by_visits (st.visits == VISITS_MAX) st o is
end_at (ended verdict) st o is = let same : o ≡ outcome_with verdict st = cc in ap (λ (w : WalkOutcome). w.executed) same

back_again : (pairs : List (ℕ × ℕ)) → pairs ≡ map (λ (e : Execution). (e.serial, e.length)) (map execution pairs)
back_again [] = refl
back_again (pair ∷ pairs) = ap (λ (ps : List (ℕ × ℕ)). pair ∷ ps) (back_again pairs)

-- what ran
pub executed_are : (pairs : List (ℕ × ℕ)) (st : Standing) (o : WalkOutcome) → map execution pairs ≡ st.executed → outcome_of st ≡ Some o → pairs ≡ map (λ (e : Execution). (e.serial, e.length)) o.executed
executed_are pairs st o same is =
    back_again pairs ∙ ap (map (λ (e : Execution). (e.serial, e.length))) (same ∙ sym (end_at st.place st o is))
