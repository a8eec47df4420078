-- Lists whose registry alone has changed.
use Rattle.std.proofs.Common.{◌≡◌, ℕ, ◌+◌, Bool, true, false, not, List, [], ◌∷◌, ◌++◌, Option, Some, None, Ok, Err, refl, sym, ◌∙◌, ap, subst}
use Rattle.std.proofs.lemmas.Bool.{false≢true}
use Rattle.std.specs.Prelude.{option_map, find, filter, is_some, if◌then◌else◌}
use Rattle.std.proofs.lemmas.List.{map-append}
use Rattle.std.proofs.lemmas.Option.{none-some}
use Rattle.act_kinds.specs.declared.params.Kind.{Kind}
use Rattle.act_kinds.specs.declared.params.Params.{Params}
use Rattle.act_kinds.specs.Params.{kind_of, number_of_kind, kind_number}
use Rattle.act_registry.specs.declared.entry.Entry.{Entry}
use Rattle.act_registry.specs.declared.fault.RegistryFault.{RegistryFault}
use Rattle.act_registry.specs.declared.fault.RegistryFault.TheVariants as faults
use Rattle.act_registry.specs.Entries as entries
use Rattle.act_registry.specs.Kept as registries
use Rattle.filter_state.specs.declared.refusal.Done.{Done}
use Rattle.filter_state.specs.States.{Action, State}
use Rattle.filter_state.specs.Order.{SameState}
use Rattle.filter_state.specs.Actions.{is_named, is_live, change_where}
use Rattle.filter_state.specs.Steps.{Stepped, with_params}
use Rattle.state_laws.proofs.OfOrder.States.{same_state_refl}
use Rattle.action_plan.specs.Entries.{action_of, actions_of}
use Rattle.action_plan.proofs.Mapped.{any_first, first_mapped, change_mapped, filter_mapped}
use Rattle.action_plan.proofs.Entries.{same_name, used_live}
use Rattle.hook_lists.specs.declared.kept.Kept.{Kept}
use Rattle.hook_lists.specs.States.{state_of, AreKept}
use Rattle.hook_lists.specs.Done.{IsDone}
use Rattle.filter_lists.proofs.Made.{made_next}

abbrev pub with_registry : Kept → registries.Kept Params → Kept
with_registry kept registry = record kept { actions = registry }

-- ---- answers of a step
abbrev pub state_in : State → Stepped → State
state_in other (Ok (next, said)) = next
state_in other (Err refusal) = other

abbrev pub answer_in : Done → Stepped → Done
answer_in other (Ok (next, said)) = said
answer_in other (Err refusal) = other

abbrev pub accepted : State → Done → Stepped
accepted next said = Ok (next, said)

-- the state that a change of the registry leads to is the step's
pub done_by : (old : Kept) (registry : registries.Kept Params) (next to : State) (done said answer : Done) → AreKept old →
    accepted next said ≡ accepted to answer → state_of (with_registry old registry) ≡ to → done ≡ answer → IsDone (with_registry old registry) done next said
done_by old registry next to done said answer kept is state same = record {
  state = subst (SameState (state_of (with_registry old registry))) (state ∙ sym (ap (state_in next) is)) (same_state_refl (state_of (with_registry old registry)));
  answer = same ∙ sym (ap (answer_in said) is);
  whole = kept.whole;
  filters = kept.filters;
}

abbrev state_with : Kept → List Action → ℕ → State
state_with kept actions made = record (state_of kept) { actions = actions; actions_made = made }

pub state_by : (old : Kept) (registry : registries.Kept Params) (actions : List Action) (made : ℕ) → actions_of registry.entries ≡ actions → registry.made ≡ made →
    state_of (with_registry old registry) ≡ state_with old actions made
state_by old registry actions made same counted =
    ap (λ (live : List Action). state_with old live registry.made) same ∙ ap (state_with old actions) counted

-- ---- an action changed, gone or made
pub changed_state : (old : Kept) (new : registries.Kept Params) (params : Params) (index : ℕ) →
    new.entries ≡ entries.change_where (entries.is_named kind_number (kind_number params) index) (entries.with_params params) old.actions.entries → new.made ≡ old.actions.made →
    state_of (with_registry old new) ≡ with_params (state_of old) (kind_of params) index params
changed_state old new params index changed made =
    let change : Action → Action = λ it. record it { params = params } in
    state_by old new (change_where (is_named (kind_of params) index) change (actions_of old.actions.entries)) old.actions.made
    (ap actions_of changed
    ∙ change_mapped action_of (entries.is_named kind_number (kind_number params) index) (is_named (kind_of params) index) (entries.with_params params) change
    (same_name (kind_of params) index) (λ e. refl) old.actions.entries)
    made

abbrev pub without : State → Kind → ℕ → State
without s kind index = record s { actions = filter (λ action. not (is_named kind index action)) s.actions }

pub gone_state : (old : Kept) (new : registries.Kept Params) (kind : Kind) (index number : ℕ) → number ≡ number_of_kind kind →
    new.entries ≡ entries.leave_out (entries.is_named kind_number number index) old.actions.entries → new.made ≡ old.actions.made →
    state_of (with_registry old new) ≡ without (state_of old) kind index
gone_state old new kind index number is left made =
    let p : Entry Params → Bool = λ e. not (entries.is_named kind_number (number_of_kind kind) index e) in
    let q : Action → Bool = λ action. not (is_named kind index action) in
    state_by old new (filter q (actions_of old.actions.entries)) old.actions.made
    (ap actions_of (left ∙ ap (λ n. entries.leave_out (entries.is_named kind_number n index) old.actions.entries) is)
    ∙ filter_mapped action_of p q (λ e. ap not (same_name kind index e)) old.actions.entries)
    made

pub made_state : (old : Kept) (new : registries.Kept Params) (params : Params) (serial index free : ℕ) → serial ≡ old.actions.made + 1 → index ≡ free →
    new.entries ≡ old.actions.entries ++ (entries.new_entry serial index params false ∷ []) → new.made ≡ old.actions.made + 1 →
    state_of (with_registry old new) ≡ (made_next (state_of old) params free).0
made_state old new params serial index free next is grown counted =
    let action : ℕ → ℕ → Action = λ n i. record { serial = n; index = i; params = params; references = 1; binds = 0 } in
    state_by old new (actions_of old.actions.entries ++ (action (old.actions.made + 1) free ∷ [])) (old.actions.made + 1)
    (ap actions_of grown ∙ map-append action_of old.actions.entries (entries.new_entry serial index params false ∷ [])
    ∙ ap (λ n. actions_of old.actions.entries ++ (action n index ∷ [])) next
    ∙ ap (λ n. actions_of old.actions.entries ++ (action (old.actions.made + 1) n ∷ [])) is)
    counted

-- ---- what the registry found
found_some : (found : Option (Entry Params)) → is_some (option_map action_of found) ≡ is_some found
found_some None = refl
found_some (Some e) = refl

pub live_found : (kind : Kind) (index number : ℕ) (es : List (Entry Params)) → number ≡ number_of_kind kind →
    is_live kind index (actions_of es) ≡ is_some (find (entries.is_named kind_number number index) es)
live_found kind index number es is =
    any_first (is_named kind index) (actions_of es)
    ∙ ap (λ (o : Option Action). is_some o) (sym (first_mapped action_of (entries.is_named kind_number (number_of_kind kind) index) (is_named kind index) (same_name kind index) es))
    ∙ found_some (find (entries.is_named kind_number (number_of_kind kind) index) es)
    ∙ ap (λ n. is_some (find (entries.is_named kind_number n index) es)) (sym is)

-- a change isn't refused where the action is live
refused_when : (b : Bool) (fault : RegistryFault) → b ≡ true → Some fault ≡ (if b then None else Some faults.NoSuchAction) → ⊥
refused_when true fault live why = none-some fault (sym why)
refused_when false fault live why = false≢true live

pub change_there : (kept : Kept) (params : Params) (index : ℕ) (fault : RegistryFault) → is_live (kind_of params) index (actions_of kept.actions.entries) ≡ true →
    Some fault ≡ (if entries.is_used kind_number (kind_number params) kept.actions.entries index then None else Some faults.NoSuchAction) → ⊥
change_there kept params index fault live why =
    refused_when (entries.is_used kind_number (kind_number params) kept.actions.entries index) fault (used_live (kind_of params) kept.actions.entries index ∙ live) why

-- ---- the qdisc
pub hook_done : (kept : Kept) (hooked : Bool) (next : State) (said answer : Done) → AreKept kept →
    accepted next said ≡ accepted (record (state_of kept) { hooked = hooked }) answer → IsDone (record kept { hooked = hooked }) answer next said
hook_done kept hooked next said answer all is = record {
  state = subst (SameState (record (state_of kept) { hooked = hooked })) (sym (ap (state_in next) is)) (same_state_refl (record (state_of kept) { hooked = hooked }));
  answer = sym (ap (answer_in said) is);
  whole = all.whole;
  filters = all.filters;
}
