-- What a plan for an action apart from filters says of the step.
use Rattle.std.proofs.Common.{◌≡◌, ℕ, ◌<◌, Option, None, Ok, Err, List, refl, sym, ◌∙◌, ap, subst}
use Rattle.act_kinds.specs.declared.params.Params.{Params}
use Rattle.act_kinds.specs.Params.{kind_of, kind_number}
use Rattle.act_registry.specs.declared.entry.Entry.{Entry}
use Rattle.act_registry.specs.declared.fault.RegistryFault.{RegistryFault}
use Rattle.act_registry.specs.Kept as registries
use Rattle.filter_state.specs.declared.refusal.Done.{Done}
use Rattle.filter_state.specs.declared.refusal.Refusal.{Refusal}
use Rattle.filter_state.specs.declared.refusal.Refusal.TheVariants as refusals
use Rattle.filter_state.specs.States.{State}
use Rattle.filter_state.specs.Actions.{index_or_free}
use Rattle.filter_state.specs.Refusals.{action_exists}
use Rattle.filter_state.specs.Steps.{Stepped, unless, action_made}
use Rattle.action_plan.specs.Entries.{actions_of}
use Rattle.hook_lists.specs.declared.kept.Kept.{Kept}
use Rattle.hook_lists.specs.States.{state_of}
use Rattle.filter_lists.specs.declared.plan.Plan.TheVariants as plans
use Rattle.filter_lists.specs.Plans.{Leads, IsPlanned}
use Rattle.filter_lists.proofs.Made.{no_index_taken}
use Rattle.filter_lists.proofs.Registries.{with_registry, state_by}
use Rattle.tc_base.specs.Memory.{no_memory}

-- ---- a refusal
pub refused_as : (kept : Kept) (stepped : Stepped) (refusal said : Refusal) → stepped ≡ Err said → refusal ≡ said → IsPlanned kept (Err refusal) stepped
refused_as kept stepped refusal said is same = subst (λ s. IsPlanned kept (Err refusal) s) (sym is) same

pub wants_memory : (kept : Kept) (stepped : Stepped) (next : State × Done) → stepped ≡ Ok next → IsPlanned kept (Err (refusals.NoMemory no_memory)) stepped
wants_memory kept stepped next is = subst (λ s. IsPlanned kept (Err (refusals.NoMemory no_memory)) s) (sym is) refl

-- ---- a new action
abbrev make_step : State → Params → Option ℕ → Stepped
make_step s params given = action_made s params (index_or_free given (kind_of params) s.actions)

abbrev refusal_with : Params → Option ℕ → List (Entry Params) → ℕ → Option RegistryFault
refusal_with params given es made = registries.make_refusal kind_number (kind_number params) given (record { entries = es; made = made; spare = 0 })

same_refusal : (params : Params) (given : Option ℕ) (old new : registries.Kept Params) → new.entries ≡ old.entries → new.made ≡ old.made →
    registries.make_refusal kind_number (kind_number params) given new ≡ registries.make_refusal kind_number (kind_number params) given old
same_refusal params given old new entries made =
    ap (λ es. refusal_with params given es new.made) entries ∙ ap (refusal_with params given old.entries) made

pub leads_to_make : (old : Kept) (new : registries.Kept Params) (params : Params) (given : Option ℕ) →
    None ≡ registries.make_refusal kind_number (kind_number params) given old.actions → new.entries ≡ old.actions.entries → new.made ≡ old.actions.made → 0 < new.spare →
    Leads (with_registry old new) (plans.MakeAction given params)
    (unless (action_exists (state_of old) (kind_of params) given) (action_made (state_of old) params (index_or_free given (kind_of params) (actions_of old.actions.entries))))
leads_to_make old new params given free entries made room = (
  record { free = same_refusal params given old.actions new entries made ∙ sym free; room = room },
  ap (λ o. unless o (make_step (state_of old) params given)) (no_index_taken old params given (sym free))
      ∙ ap (λ s. make_step s params given) (sym (state_by old new (actions_of old.actions.entries) old.actions.made (ap actions_of entries) made)),
)
