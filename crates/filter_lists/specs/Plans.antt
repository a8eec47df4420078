-- What is planned for an edit, and where it leads.
use Rattle.std.specs.Prelude.{◌≡◌, ◌<◌, ℕ, true, false, not, filter, Option, None, Result, Ok, Err, find}
use Rattle.act_kinds.specs.declared.params.Params.{Params}
use Rattle.act_kinds.specs.Params.{kind_of, number_of_kind, kind_number}
use Rattle.act_registry.specs.Entries as entries
use Rattle.act_registry.specs.Kept as registries
use Rattle.filter_state.specs.declared.refusal.Done.TheVariants as dones
use Rattle.filter_state.specs.declared.refusal.Refusal.{Refusal}
use Rattle.filter_state.specs.declared.refusal.Refusal.TheVariants as refusals
use Rattle.filter_state.specs.Actions.{is_named, is_live, index_or_free}
use Rattle.filter_state.specs.Steps.{Stepped, unless, action_made, with_params}
use Rattle.hook_lists.specs.declared.kept.Kept.{Kept}
use Rattle.hook_lists.specs.States.{state_of}
use Rattle.filter_lists.specs.OfAdding.Additions as additions
use Rattle.filter_lists.specs.OfReplacing.Replacements as replacements
use Rattle.filter_lists.specs.OfRemoving.Removals as removals
use Rattle.filter_lists.specs.declared.plan.Plan.{Plan}
use Rattle.filter_lists.specs.declared.plan.Plan.TheVariants as plans
use Rattle.tc_base.specs.Memory.{no_memory}

-- the registry would make the action, and has room for it
pub record MayMake (kept : Kept) (params : Params) (index : Option ℕ) : Type 0 where
  pub free : registries.make_refusal kind_number (kind_number params) index kept.actions ≡ None
  pub room : 0 < kept.actions.spare

-- the plan is ready, and leads where the step does
abbrev pub Leads : Kept → Plan → Stepped → Type 0
Leads kept plans.HookAdd stepped = stepped ≡ Ok (record (state_of kept) { hooked = true }, dones.Hooked)
Leads kept plans.HookDel stepped = stepped ≡ Ok (record (state_of kept) { hooked = false }, dones.Unhooked)
Leads kept (plans.Add addition) stepped = additions.IsPlanned kept (Ok addition) stepped
Leads kept (plans.Replace replacement) stepped = replacements.IsPlanned kept (Ok replacement) stepped
Leads kept (plans.Remove removal) stepped = removals.IsPlanned kept (Ok removal) stepped
Leads kept (plans.MakeAction index params) stepped =
    MayMake kept params index
    × (stepped
    ≡ unless None
    (action_made (state_of kept) params (index_or_free index (kind_of params) (state_of kept).actions)))
Leads kept (plans.ChangeAction index params) stepped =
    (is_live (kind_of params) index (state_of kept).actions ≡ true)
    × (stepped ≡ Ok (with_params (state_of kept) (kind_of params) index params, dones.ActionChanged))
Leads kept (plans.DelAction kind index) stepped =
    (registries.delete_refusal
    (find (entries.is_named kind_number (number_of_kind kind) index) kept.actions.entries) ≡ None)
    × (stepped
    ≡ Ok (
      record (state_of kept) {
        actions = filter (λ action. not (is_named kind index action))
            (state_of kept).actions;
      },
      dones.ActionGone,
    ))

-- an edit is planned where the step accepts it; it is refused for the step's reason, or, where the step
-- accepts it, for want of memory
abbrev pub IsPlanned : Kept → Result Plan Refusal → Stepped → Type 0
IsPlanned kept (Ok plan) stepped = Leads kept plan stepped
IsPlanned kept (Err refusal) (Err said) = refusal ≡ said
IsPlanned kept (Err refusal) (Ok next) = refusal ≡ refusals.NoMemory no_memory
