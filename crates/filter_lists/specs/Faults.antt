-- What the registry's refusals mean for an edit.
use Rattle.std.specs.Prelude.{ℕ}
use Rattle.act_kinds.specs.declared.params.Kind.{Kind}
use Rattle.act_registry.specs.declared.fault.RegistryFault.{RegistryFault}
use Rattle.act_registry.specs.declared.fault.RegistryFault.TheVariants as faults
use Rattle.filter_state.specs.declared.refusal.Refusal.{Refusal}
use Rattle.filter_state.specs.declared.refusal.Refusal.TheVariants as refusals

-- the refusal of an edit that names that kind and index, where the registry refused
abbrev pub refusal_for : Kind → ℕ → RegistryFault → Refusal
refusal_for kind index faults.NoSuchAction = refusals.NoSuchAction kind index
refusal_for kind index faults.ActionExists = refusals.ActionExists
refusal_for kind index (faults.ActionBound binds) = refusals.ActionBound binds
refusal_for kind index faults.ActionsFull = refusals.ActionsFull
refusal_for kind index faults.CountersFull = refusals.CountersFull
refusal_for kind index (faults.NoMemory memory) = refusals.NoMemory memory
