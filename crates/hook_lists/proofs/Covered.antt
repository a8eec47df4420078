-- Actions that have a bind and a reference for each place of a list: the places can be let go one after the
-- other.
use Rattle.std.proofs.Common.{◌≡◌, ℕ, ◌<◌, ◌≤◌, ◌==◌, Bool, true, false, cond, List, [], ◌∷◌, map, Option, Some, None, refl, sym, ◌∙◌, ap, subst, arith, eqb-true}
use Rattle.std.specs.Prelude.{find, option_map, IsSomeAnd, if◌then◌else◌}
use Rattle.std.proofs.lemmas.Bool.{ne_eqb, not_from_false}
use Rattle.act_kinds.specs.declared.params.Params.{Params}
use Rattle.act_registry.specs.declared.entry.Entry.{Entry}
use Rattle.act_registry.specs.Entries as entries
use Rattle.filter_state.specs.States.{Action}
use Rattle.filter_state.specs.Actions.{has_serial, less_bound, is_referred, unbound}
use Rattle.filter_state.specs.Tables.{first_where}
use Rattle.action_plan.specs.Entries.{action_of, actions_of}
use Rattle.action_plan.specs.Bound.{AreBound}
use Rattle.action_plan.proofs.Mapped.{first_mapped}
use Rattle.action_plan.proofs.Unbound.{unbound_same}
use Rattle.hook_lists.proofs.First.{FirstIs, one_weaker, first_map, first_filter}
use Rattle.filter_state.proofs.Times.{times, times_cons}
use Rattle.hook_lists.proofs.Times.{times_self}

-- so many places can let the action go
abbrev pub HasFor : ℕ → Action → Type 0
HasFor many action = (many ≤ action.binds) × (many ≤ action.references)

abbrev pub AreCovered : List ℕ → List Action → Type 0
AreCovered serials actions = (n : ℕ) → 0 < times n serials → FirstIs (has_serial n) actions (HasFor (times n serials))

-- ---- one place let go
abbrev pub lowered : ℕ → Action → Action
lowered serial action = if has_serial serial action then less_bound action else action

pub kept_serial : (b : Bool) (action : Action) → (cond b (less_bound action) action).serial ≡ action.serial
kept_serial true action = refl
kept_serial false action = refl

pub same_serial : (n serial : ℕ) (action : Action) → has_serial n (lowered serial action) ≡ has_serial n action
same_serial n serial action = ap (λ k. k == n) (kept_serial (has_serial serial action) action)

left_for : (n serial : ℕ) (rest : List ℕ) (b : Bool) (action : Action) → has_serial serial action ≡ b → action.serial ≡ n → HasFor (times n (serial ∷ rest)) action
    → HasFor (times n rest) (cond b (less_bound action) action)
left_for n serial rest true action is at has =
    let more = times_self n serial rest (sym (eqb-true action.serial serial is) ∙ at) in
    (omega (arith, more, has.0), omega (arith, more, has.1))
left_for n serial rest false action is at has =
    let more = times_cons n serial rest in
    (omega (arith, more, has.0), omega (arith, more, has.1))

pub is_held : (action : Action) → 0 < action.references → is_referred action ≡ true
is_held action some = not_from_false (action.references == 0) (ne_eqb action.references 0 (λ none. omega (arith, none, some)))

covered_unbound : (serial : ℕ) (rest : List ℕ) (actions : List Action) → AreCovered (serial ∷ rest) actions → AreCovered rest (unbound serial actions)
covered_unbound serial rest actions covered n some =
    first_filter (has_serial n) is_referred (HasFor (times n rest)) (λ action at has. is_held action (omega (arith, some, has.1))) (map (lowered serial) actions)
    (first_map (has_serial n) (lowered serial) (HasFor (times n (serial ∷ rest))) (HasFor (times n rest)) (same_serial n serial)
    (λ action at has. left_for n serial rest (has_serial serial action) action refl (eqb-true action.serial n at) has) actions
    (covered n (omega (arith, some, times_cons n serial rest))))

-- ---- as entries
entry_of : (P : Action → Type 0) (found : Option (Entry Params)) → IsSomeAnd (option_map action_of found) P → IsSomeAnd found (λ e. P (action_of e))
entry_of P None some = some
entry_of P (Some e) some = some

pub as_action : (P : Action → Type 0) (found : Option (Entry Params)) → IsSomeAnd found (λ e. P (action_of e)) → IsSomeAnd (option_map action_of found) P
as_action P None some = some
as_action P (Some e) some = some

pub found_same : (serial : ℕ) (es : List (Entry Params)) → option_map action_of (find (entries.has_serial serial) es) ≡ first_where (has_serial serial) (actions_of es)
found_same serial es = first_mapped action_of (entries.has_serial serial) (has_serial serial) (λ e. refl) es

pub covered_bound : (serials : List ℕ) (es : List (Entry Params)) → AreCovered serials (actions_of es) → AreBound serials es
covered_bound [] es covered = tt
covered_bound (serial ∷ rest) es covered =
    let here : FirstIs (has_serial serial) (actions_of es) (HasFor (times serial (serial ∷ rest))) = covered serial (omega (arith, times_self serial serial rest refl)) in
    let some : FirstIs (has_serial serial) (actions_of es) (λ action. 0 < action.binds) =
    one_weaker (HasFor (times serial (serial ∷ rest))) (λ action. 0 < action.binds) (λ action has. omega (arith, has.0, times_self serial serial rest refl)) (first_where (has_serial serial) (actions_of es)) here in (
      entry_of (λ action. 0 < action.binds) (find (entries.has_serial serial) es) (subst (λ o. IsSomeAnd o (λ (action : Action). 0 < action.binds)) (sym (found_same serial es)) some),
      covered_bound rest (entries.unbound serial es) (subst (AreCovered rest) (sym (unbound_same serial es)) (covered_unbound serial rest (actions_of es) covered)),
    )
