-- A new action: the registry refuses where the state's step does, and makes what the step makes.
use Rattle.std.proofs.Common.{◌≡◌, ℕ, ◌+◌, Bool, true, false, List, [], ◌∷◌, ◌++◌, length, Option, Some, None, Ok, Err, refl, sym, ◌∙◌, ap, arith}
use Rattle.std.specs.Prelude.{option_map, nat_le, nat_lt, if◌then◌else◌}
use Rattle.std.proofs.lemmas.Bool.Decides.{nat_tests}
use Rattle.std.proofs.lemmas.List.{length-map, length-append}
use Rattle.std.proofs.lemmas.Option.{none-some}
use Rattle.act_kinds.specs.declared.params.Kind.{Kind}
use Rattle.act_kinds.specs.declared.params.Params.{Params}
use Rattle.act_kinds.specs.Params.{kind_of, number_of_kind, kind_number}
use Rattle.act_registry.specs.declared.entry.Entry.{Entry}
use Rattle.act_registry.specs.declared.fault.RegistryFault.{RegistryFault}
use Rattle.act_registry.specs.declared.fault.RegistryFault.TheVariants as faults
use Rattle.act_registry.specs.Kept as registries
use Rattle.filter_state.specs.declared.refusal.Done.{Done}
use Rattle.filter_state.specs.declared.refusal.Done.TheVariants as dones
use Rattle.filter_state.specs.declared.refusal.Refusal.TheVariants as refusals
use Rattle.filter_state.specs.States.{Action, State}
use Rattle.filter_state.specs.Actions.{made_more}
use Rattle.filter_state.specs.Refusals.{when, or_else, action_exists}
use Rattle.filter_state.specs.Steps.{Stepped, unless, made_of, with_actions, action_made}
use Rattle.action_plan.specs.Entries.{action_of, actions_of}
use Rattle.action_plan.proofs.Entries.{used_live}
use Rattle.hook_lists.specs.declared.kept.Kept.{Kept}
use Rattle.hook_lists.specs.States.{state_of}
use Rattle.filter_lists.specs.Faults.{refusal_for}

-- the state with one action more, and the answer
abbrev pub made_next : State → Params → ℕ → State × Done
made_next s params index = (with_actions s (made_more (made_of s) params index 0), dones.ActionMade index (s.actions_made + 1))

-- ---- why it is refused
by_three : (kind : Kind) (index : ℕ) (taken full counted : Bool) (next : State × Done) →
    unless (when taken refusals.ActionExists) (unless (or_else (when full refusals.ActionsFull) (when counted refusals.CountersFull)) (Ok next))
    ≡ unless (option_map (refusal_for kind index) (if taken then Some faults.ActionExists else (if full then Some faults.ActionsFull else (if counted then Some faults.CountersFull else None)))) (Ok next)
by_three kind index true full counted next = refl
by_three kind index false true counted next = refl
by_three kind index false false true next = refl
by_three kind index false false false next = refl

exists_when : (kept : Kept) (kind : Kind) (given : Option ℕ) →
    action_exists (state_of kept) kind given ≡ when (registries.is_taken kind_number (number_of_kind kind) kept.actions.entries given) refusals.ActionExists
exists_when kept kind None = refl
exists_when kept kind (Some index) = ap (λ b. when b refusals.ActionExists) (sym (used_live kind kept.actions.entries index))

one_more : (most n : ℕ) → nat_lt most (n + 1) ≡ nat_le most n
one_more most n = grind (arith, nat_tests)

longer : (es : List (Entry Params)) (action : Action) → length (actions_of es ++ (action ∷ [])) ≡ length es + 1
longer es action = length-append (actions_of es) (action ∷ []) ∙ ap (λ n. n + 1) (length-map es action_of)

made_by_three : (kept : Kept) (params : Params) (index : ℕ) →
    action_made (state_of kept) params index
    ≡ unless (or_else (when (nat_le 1024 (length kept.actions.entries)) refusals.ActionsFull) (when (nat_le 16384 kept.actions.made) refusals.CountersFull)) (Ok (made_next (state_of kept) params index))
made_by_three kept params index =
    let action : Action = record { serial = kept.actions.made + 1; index = index; params = params; references = 1; binds = 0 } in
    let next : State × Done = made_next (state_of kept) params index in
    ap (λ n. unless (or_else (when (nat_lt 1024 n) refusals.ActionsFull) (when (nat_lt 16384 (kept.actions.made + 1)) refusals.CountersFull)) (Ok next)) (longer kept.actions.entries action)
    ∙ ap (λ b. unless (or_else (when b refusals.ActionsFull) (when (nat_lt 16384 (kept.actions.made + 1)) refusals.CountersFull)) (Ok next)) (one_more 1024 (length kept.actions.entries))
    ∙ ap (λ b. unless (or_else (when (nat_le 1024 (length kept.actions.entries)) refusals.ActionsFull) (when b refusals.CountersFull)) (Ok next)) (one_more 16384 kept.actions.made)

pub make_is : (kept : Kept) (params : Params) (given : Option ℕ) (index : ℕ) →
    unless (action_exists (state_of kept) (kind_of params) given) (action_made (state_of kept) params index)
    ≡ unless (option_map (refusal_for (kind_of params) 0) (registries.make_refusal kind_number (kind_number params) given kept.actions)) (Ok (made_next (state_of kept) params index))
make_is kept params given index =
    let taken = registries.is_taken kind_number (kind_number params) kept.actions.entries given in
    let full = nat_le 1024 (length kept.actions.entries) in
    let counted = nat_le 16384 kept.actions.made in
    ap (λ o. unless o (action_made (state_of kept) params index)) (exists_when kept (kind_of params) given)
    ∙ ap (unless (when taken refusals.ActionExists)) (made_by_three kept params index)
    ∙ by_three (kind_of params) 0 taken full counted (made_next (state_of kept) params index)

abbrev made_or_not : Kept → Params → ℕ → Option RegistryFault → Stepped
made_or_not kept params index o = unless (option_map (refusal_for (kind_of params) 0) o) (Ok (made_next (state_of kept) params index))

pub make_refused : (kept : Kept) (params : Params) (given : Option ℕ) (index : ℕ) (fault : RegistryFault) →
    Some fault ≡ registries.make_refusal kind_number (kind_number params) given kept.actions →
    unless (action_exists (state_of kept) (kind_of params) given) (action_made (state_of kept) params index) ≡ Err (refusal_for (kind_of params) 0 fault)
make_refused kept params given index fault why = make_is kept params given index ∙ ap (made_or_not kept params index) (sym why)

pub make_accepted : (kept : Kept) (params : Params) (given : Option ℕ) (index : ℕ) →
    registries.make_refusal kind_number (kind_number params) given kept.actions ≡ None →
    unless (action_exists (state_of kept) (kind_of params) given) (action_made (state_of kept) params index) ≡ Ok (made_next (state_of kept) params index)
make_accepted kept params given index free = make_is kept params given index ∙ ap (made_or_not kept params index) free

-- ---- without a refusal no index is taken
not_taken : (taken : Bool) (rest : Option RegistryFault) → (if taken then Some faults.ActionExists else rest) ≡ None → taken ≡ false
not_taken true rest free = absurd (none-some faults.ActionExists (sym free))
not_taken false rest free = refl

pub no_index_taken : (kept : Kept) (params : Params) (given : Option ℕ) → registries.make_refusal kind_number (kind_number params) given kept.actions ≡ None →
    action_exists (state_of kept) (kind_of params) given ≡ None
no_index_taken kept params given free =
    exists_when kept (kind_of params) given
    ∙ ap (λ b. when b refusals.ActionExists) (not_taken (registries.is_taken kind_number (kind_number params) kept.actions.entries given) _ free)

pub made_accepted : (kept : Kept) (params : Params) (given : Option ℕ) (index : ℕ) → registries.make_refusal kind_number (kind_number params) given kept.actions ≡ None →
    action_made (state_of kept) params index ≡ Ok (made_next (state_of kept) params index)
made_accepted kept params given index free =
    ap (λ o. unless o (action_made (state_of kept) params index)) (sym (no_index_taken kept params given free)) ∙ make_accepted kept params given index free
