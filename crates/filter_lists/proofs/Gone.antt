-- An action deleted: the registry refuses where the state's step does.
use Rattle.std.proofs.Common.{◌≡◌, ℕ, ◌<◌, ◌≤◌, ◌==◌, Bool, true, false, not, Option, Some, None, Ok, Err, refl, sym, ◌∙◌, ap, arith}
use Rattle.std.specs.Prelude.{find, option_map, is_some, nat_lt, if◌then◌else◌}
use Rattle.std.proofs.lemmas.Bool.Decides.{nat_tests}
use Rattle.act_kinds.specs.declared.params.Kind.{Kind}
use Rattle.act_kinds.specs.declared.params.Params.{Params}
use Rattle.act_kinds.specs.Params.{number_of_kind, kind_number}
use Rattle.act_registry.specs.declared.entry.Entry.{Entry}
use Rattle.act_registry.specs.declared.fault.RegistryFault.{RegistryFault}
use Rattle.act_registry.specs.declared.fault.RegistryFault.TheVariants as faults
use Rattle.act_registry.specs.Entries as entries
use Rattle.act_registry.specs.Kept as registries
use Rattle.filter_state.specs.declared.refusal.Done.TheVariants as dones
use Rattle.filter_state.specs.declared.refusal.Refusal.TheVariants as refusals
use Rattle.filter_state.specs.States.{Action}
use Rattle.filter_state.specs.Actions.{is_named}
use Rattle.filter_state.specs.Tables.{first_where}
use Rattle.filter_state.specs.Refusals.{when, or_else, bound_by}
use Rattle.filter_state.specs.Steps.{unless, action_del}
use Rattle.action_plan.specs.Entries.{action_of}
use Rattle.action_plan.proofs.Mapped.{first_mapped, any_first}
use Rattle.action_plan.proofs.Entries.{same_name}
use Rattle.hook_lists.specs.declared.kept.Kept.{Kept}
use Rattle.hook_lists.specs.States.{state_of}
use Rattle.filter_lists.specs.Faults.{refusal_for}
use Rattle.filter_lists.proofs.Registries.{without}

bound_when : (n : ℕ) → not (n == 0) ≡ nat_lt 0 n
bound_when n = grind (arith, nat_tests)

bound_step : (kind : Kind) (index : ℕ) (b : Bool) (binds : ℕ) →
    when b (refusals.ActionBound binds) ≡ option_map (refusal_for kind index) (if b then Some (faults.ActionBound binds) else None)
bound_step kind index true binds = refl
bound_step kind index false binds = refl

refused_for : (kind : Kind) (index : ℕ) (found : Option (Entry Params)) →
    or_else (when (not (is_some (option_map action_of found))) (refusals.NoSuchAction kind index)) (bound_by (option_map action_of found))
    ≡ option_map (refusal_for kind index) (registries.delete_refusal found)
refused_for kind index None = refl
refused_for kind index (Some e) = ap (λ b. when b (refusals.ActionBound e.binds)) (bound_when e.binds) ∙ bound_step kind index (nat_lt 0 e.binds) e.binds

-- the entry of that kind and index
abbrev pub found_in : Kept → Kind → ℕ → Option (Entry Params)
found_in kept kind index = find (entries.is_named kind_number (number_of_kind kind) index) kept.actions.entries

pub found_by : (kept : Kept) (kind : Kind) (index number : ℕ) (found : Option (Entry Params)) → number ≡ number_of_kind kind →
    found ≡ find (entries.is_named kind_number number index) kept.actions.entries → found_in kept kind index ≡ found
found_by kept kind index number found is same = ap (λ n. find (entries.is_named kind_number n index) kept.actions.entries) (sym is) ∙ sym same

pub delete_is : (kept : Kept) (kind : Kind) (index : ℕ) (found : Option (Entry Params)) → found_in kept kind index ≡ found →
    action_del (state_of kept) kind index
    ≡ unless (option_map (refusal_for kind index) (registries.delete_refusal found)) (Ok (without (state_of kept) kind index, dones.ActionGone))
delete_is kept kind index found is =
    let s = state_of kept in
    let test : Action → Bool = is_named kind index in
    let first : first_where test s.actions ≡ option_map action_of found =
    sym (first_mapped action_of (entries.is_named kind_number (number_of_kind kind) index) test (same_name kind index) kept.actions.entries) ∙ ap (option_map action_of) is in
    ap (λ o. unless o (Ok (without s kind index, dones.ActionGone))) (
    ap (λ b. or_else (when (not b) (refusals.NoSuchAction kind index)) (bound_by (first_where test s.actions))) (any_first test s.actions)
    ∙ ap (λ o. or_else (when (not (is_some o)) (refusals.NoSuchAction kind index)) (bound_by o)) first
    ∙ refused_for kind index found)

above : (n : ℕ) → 0 < n → nat_lt 0 n ≡ true
above n some = grind (arith, nat_tests, some)

none : (n : ℕ) → n ≤ 0 → nat_lt 0 n ≡ false
none n not_some = grind (arith, nat_tests, not_some)

abbrev refusal_when : ℕ → Bool → Option RegistryFault
refusal_when binds b = if b then Some (faults.ActionBound binds) else None

pub bound_refusal : (e : Entry Params) → 0 < e.binds → registries.delete_refusal (Some e) ≡ Some (faults.ActionBound e.binds)
bound_refusal e some = ap (refusal_when e.binds) (above e.binds some)

pub free_refusal : (e : Entry Params) → e.binds ≤ 0 → registries.delete_refusal (Some e) ≡ None
free_refusal e not_some = ap (refusal_when e.binds) (none e.binds not_some)

pub bound_del : (kept : Kept) (kind : Kind) (index : ℕ) (e : Entry Params) → found_in kept kind index ≡ Some e → 0 < e.binds →
    action_del (state_of kept) kind index ≡ Err (refusals.ActionBound e.binds)
bound_del kept kind index e is some =
    delete_is kept kind index (Some e) is
    ∙ ap (λ o. unless (option_map (refusal_for kind index) o) (Ok (without (state_of kept) kind index, dones.ActionGone))) (bound_refusal e some)

pub free_del : (kept : Kept) (kind : Kind) (index : ℕ) (e : Entry Params) → found_in kept kind index ≡ Some e → e.binds ≤ 0 →
    action_del (state_of kept) kind index ≡ Ok (without (state_of kept) kind index, dones.ActionGone)
free_del kept kind index e is not_some =
    delete_is kept kind index (Some e) is
    ∙ ap (λ o. unless (option_map (refusal_for kind index) o) (Ok (without (state_of kept) kind index, dones.ActionGone))) (free_refusal e not_some)
