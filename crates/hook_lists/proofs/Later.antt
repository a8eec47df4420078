-- Places that can be let go one after the other can be let go also when a plan has been carried out before:
-- where serials differ, such places are as many as the binds at most.
use Rattle.std.proofs.Common.{◌≡◌, ℕ, zero, suc, ◌+◌, ◌<◌, ◌≤◌, ◌==◌, Bool, true, false, cond, List, [], ◌∷◌, map, refl, sym, ◌∙◌, ap, subst, arith, eqb-true}
use Rattle.std.specs.Prelude.{find, IsSomeAnd}
use Rattle.std.proofs.lemmas.Bool.Decides.{nat_tests}
use Rattle.act_kinds.specs.declared.params.Params.{Params}
use Rattle.act_registry.specs.declared.entry.Entry.{Entry}
use Rattle.act_registry.specs.Entries as entries
use Rattle.act_registry.specs.Kept as registries
use Rattle.filter_state.specs.States.{Action}
use Rattle.filter_state.specs.Actions.{has_serial, less_bound, is_referred, unbound, Made}
use Rattle.filter_state.specs.Tables.{first_where}
use Rattle.filter_state.specs.Sound.{Each, EachPair, StandApart, IsAction}
use Rattle.action_plan.specs.declared.planned.PlannedAction.{PlannedAction}
use Rattle.action_plan.specs.Bound.{AreBound}
use Rattle.action_plan.specs.Entries.{actions_of}
use Rattle.action_plan.specs.Plans.{made_of, carried}
use Rattle.action_plan.proofs.Unbound.{unbound_same}
use Rattle.filter_state.proofs.Pairs.{each_weaker, each_filter, pairs_filter}
use Rattle.row_laws.proofs.OfLookups.Pairs.{pairs_both}
use Rattle.hook_lists.specs.declared.kept.Kept.{Kept}
use Rattle.hook_lists.specs.States.{state_of, AreKept}
use Rattle.hook_lists.proofs.First.{FirstIs, NotBoth, one_weaker, first_passes, map_first, filter_first, first_each}
use Rattle.filter_state.proofs.Times.{times, one_if, times_cons}
use Rattle.hook_lists.proofs.Times.{times_self}
use Rattle.hook_lists.proofs.Covered.{HasFor, AreCovered, lowered, kept_serial, same_serial, as_action, found_same, covered_bound}
use Rattle.hook_lists.proofs.Carried.{covered_carried}
use Rattle.hook_lists.proofs.Holding.{at_least}

-- ---- what the places need, and unbinding keeps
abbrev Differ : Action → Action → Type 0
Differ x y = x.serial ≡ y.serial → ⊥

abbrev IsEnough : Action → Type 0
IsEnough action = action.binds ≤ action.references

record AreFine (actions : List Action) : Type 0 where
  pub differ : EachPair Differ actions
  pub enough : Each IsEnough actions

lowered_enough : (b : Bool) (action : Action) → IsEnough action → IsEnough (cond b (less_bound action) action)
lowered_enough true action enough = omega (arith, enough)
lowered_enough false action enough = enough

each_lowered : (serial : ℕ) (actions : List Action) → Each IsEnough actions → Each IsEnough (map (lowered serial) actions)
each_lowered serial [] all = tt
each_lowered serial (action ∷ actions) all = (lowered_enough (has_serial serial action) action all.0, each_lowered serial actions all.1)

differ_lowered : (serial other : ℕ) (actions : List Action) → Each (λ (action : Action). other ≡ action.serial → ⊥) actions → Each (λ (action : Action). other ≡ action.serial → ⊥) (map (lowered serial) actions)
differ_lowered serial other [] all = tt
differ_lowered serial other (action ∷ actions) all =
    (λ same. all.0 (same ∙ kept_serial (has_serial serial action) action), differ_lowered serial other actions all.1)

pairs_lowered : (serial : ℕ) (actions : List Action) → EachPair Differ actions → EachPair Differ (map (lowered serial) actions)
pairs_lowered serial [] pairs = tt
pairs_lowered serial (action ∷ actions) pairs = (
  subst (λ n. Each (λ (x : Action). n ≡ x.serial → ⊥) (map (lowered serial) actions)) (sym (kept_serial (has_serial serial action) action)) (differ_lowered serial action.serial actions pairs.0),
  pairs_lowered serial actions pairs.1,
)

fine_unbound : (serial : ℕ) (actions : List Action) → AreFine actions → AreFine (unbound serial actions)
fine_unbound serial actions fine = record {
  differ = pairs_filter Differ is_referred (map (lowered serial) actions) (pairs_lowered serial actions fine.differ);
  enough = each_filter IsEnough is_referred (map (lowered serial) actions) (each_lowered serial actions fine.enough);
}

not_both : (n : ℕ) (x y : Action) → Differ x y → NotBoth (has_serial n) x y
not_both n x y differ here there = differ (eqb-true x.serial n here ∙ sym (eqb-true y.serial n there))

apart_by : (n : ℕ) (actions : List Action) → EachPair Differ actions → EachPair (NotBoth (has_serial n)) actions
apart_by n actions differ = pairs_both Differ Differ (NotBoth (has_serial n)) (λ x y one _. not_both n x y one) actions differ differ

-- ---- one place more
before : (n serial : ℕ) (rest : List ℕ) (actions : List Action) → AreFine actions → AreCovered rest (unbound serial actions) → 0 < times n rest
    → FirstIs (has_serial n) actions (λ action. HasFor (times n rest) (lowered serial action) × (has_serial n action ≡ true))
before n serial rest actions fine covered some =
    first_passes (has_serial n) (λ action. HasFor (times n rest) (lowered serial action)) actions
    (map_first (has_serial n) (lowered serial) (HasFor (times n rest)) (same_serial n serial) actions
    (filter_first (has_serial n) is_referred (HasFor (times n rest)) (map (lowered serial) actions) (apart_by n (map (lowered serial) actions) (pairs_lowered serial actions fine.differ))
    (covered n some)))

has_more : (n serial : ℕ) (rest : List ℕ) (b : Bool) (action : Action) → has_serial serial action ≡ b → action.serial ≡ n → 0 < times n rest
    → HasFor (times n rest) (cond b (less_bound action) action) → HasFor (times n (serial ∷ rest)) action
has_more n serial rest true action is at some has =
    let more = times_self n serial rest (sym (eqb-true action.serial serial is) ∙ at) in
    (omega (arith, more, some, has.0), omega (arith, more, some, has.1))
has_more n serial rest false action is at some has =
    let none : (serial == n) ≡ false = ap (λ k. serial == k) (sym at) ∙ other_way action.serial serial is in
    let same : times n (serial ∷ rest) ≡ 0 + times n rest = times_cons n serial rest ∙ ap (λ b. one_if b + times n rest) none in
    (omega (arith, same, has.0), omega (arith, same, has.1))
  where
    other_way : (m k : ℕ) → (m == k) ≡ false → (k == m) ≡ false
    other_way m k differ = grind (arith, nat_tests)

covered_step : (n serial : ℕ) (rest : List ℕ) (actions : List Action) (b : Bool) (left : ℕ) → (serial == n) ≡ b → times n rest ≡ left → AreFine actions
    → FirstIs (has_serial serial) actions (λ action. 0 < action.binds) → AreCovered rest (unbound serial actions)
    → 0 < one_if b + left → FirstIs (has_serial n) actions (HasFor (times n (serial ∷ rest)))
covered_step n serial rest actions b (suc left) is many fine here covered some =
    one_weaker (λ action. HasFor (times n rest) (lowered serial action) × (has_serial n action ≡ true)) (HasFor (times n (serial ∷ rest)))
    (λ action has. has_more n serial rest (has_serial serial action) action refl (eqb-true action.serial n has.1) (omega (arith, many)) has.0) (first_where (has_serial n) actions)
    (before n serial rest actions fine covered (omega (arith, many)))
covered_step n serial rest actions true zero is many fine here covered some =
    let same = eqb-true serial n is in
    let one = times_self n serial rest same in
    one_weaker (λ action. (0 < action.binds) × IsEnough action) (HasFor (times n (serial ∷ rest)))
    (λ action has. (omega (arith, one, many, has.0), omega (arith, one, many, has.0, has.1))) (first_where (has_serial n) actions)
    (first_each (has_serial n) (λ action. 0 < action.binds) IsEnough actions fine.enough (subst (λ k. FirstIs (has_serial k) actions (λ action. 0 < action.binds)) same here))
covered_step n serial rest actions false zero is many fine here covered some = absurd (omega (arith, some))

covered_again : (serial : ℕ) (rest : List ℕ) (actions : List Action) → AreFine actions → FirstIs (has_serial serial) actions (λ action. 0 < action.binds)
    → AreCovered rest (unbound serial actions) → AreCovered (serial ∷ rest) actions
covered_again serial rest actions fine here covered n some =
    covered_step n serial rest actions (serial == n) (times n rest) refl refl fine here covered (omega (arith, some, times_cons n serial rest))

bound_covered : (serials : List ℕ) (es : List (Entry Params)) → AreFine (actions_of es) → AreBound serials es → AreCovered serials (actions_of es)
bound_covered [] es fine bound = λ n some. absurd (let none : times n [] ≡ 0 = refl in omega arith)
bound_covered (serial ∷ rest) es fine bound =
    let next : AreFine (actions_of (entries.unbound serial es)) = subst AreFine (sym (unbound_same serial es)) (fine_unbound serial (actions_of es) fine) in
    covered_again serial rest (actions_of es) fine
    (subst (λ o. IsSomeAnd o (λ (action : Action). 0 < action.binds)) (found_same serial es) (as_action (λ action. 0 < action.binds) (find (entries.has_serial serial) es) bound.0))
    (subst (AreCovered rest) (unbound_same serial es) (bound_covered rest (entries.unbound serial es) next bound.1))

-- ---- of what is kept
rising_differ : (x y : Action) → StandApart x y → Differ x y
rising_differ x y apart same = omega (arith, apart.rising, same)

kept_fine : (kept : Kept) → AreKept kept → AreFine (actions_of kept.actions.entries)
kept_fine kept are = record {
  differ = pairs_both StandApart StandApart Differ (λ x y apart _. rising_differ x y apart) (actions_of kept.actions.entries) are.sound.apart are.sound.apart;
  enough = each_weaker (IsAction (state_of kept)) IsEnough (λ action is. at_least action.references action.binds is.references) (actions_of kept.actions.entries) are.sound.actions;
}

pub bound_later : (serials : List ℕ) (old : Kept) (new : registries.Kept Params) (plan : List PlannedAction) → AreKept old → AreBound serials old.actions.entries
    → made_of new ≡ carried (made_of old.actions) plan → AreBound serials new.entries
bound_later serials old new plan are bound carried_out =
    covered_bound serials new.entries
    (subst (AreCovered serials) (sym (ap (λ (m : Made). m.actions) carried_out))
    (covered_carried serials (made_of old.actions) plan (bound_covered serials old.actions.entries (kept_fine old are) bound)))
