-- What contracts see of a registry, and why its calls are refused (this project's own).
use Rattle.act_registry.specs.declared.limits.TheConstants.{ACTIONS_MAX, MADE_MAX}
use Rattle.std.specs.Prelude.{◌≡◌, ℕ, Bool, false, nat_lt, nat_le, List, length, Option, Some, None, Result}
use Rattle.std.specs.Prelude.{Ok, Err, IfErr, if◌then◌else◌}
use Rattle.act_registry.specs.declared.entry.Entry.{Entry}
use Rattle.act_registry.specs.declared.fault.RegistryFault.{RegistryFault}
use Rattle.act_registry.specs.declared.fault.RegistryFault.TheVariants.{NoSuchAction, ActionExists}
use Rattle.act_registry.specs.declared.fault.RegistryFault.TheVariants.{ActionBound, ActionsFull}
use Rattle.act_registry.specs.declared.fault.RegistryFault.TheVariants.{CountersFull, NoMemory}
use Rattle.act_registry.specs.Entries.{is_used}
use Rattle.tc_base.specs.Memory.{no_memory}

-- the live entries by rising serial, how many were made so far, and for how many more there is room
pub record Kept (P : Type 0) : Type 0 where
  pub entries : List (Entry P)
  pub made : ℕ
  pub spare : ℕ

-- the refusal that a call answered
abbrev pub refusal_of : {T : Type 0} → Result T RegistryFault → Option RegistryFault
refusal_of (Ok done) = None
refusal_of (Err fault) = Some fault

-- a given index that an entry of the kind has
abbrev pub is_taken : {P : Type 0} → (P → ℕ) → ℕ → List (Entry P) → Option ℕ → Bool
is_taken kind_of kind es None = false
is_taken kind_of kind es (Some index) = is_used kind_of kind es index

-- why no action of that kind and index is made: the first that applies
abbrev pub make_refusal : {P : Type 0} → (P → ℕ) → ℕ → Option ℕ → Kept P → Option RegistryFault
make_refusal kind_of kind index r =
    if is_taken kind_of kind r.entries index then Some ActionExists
    else (if nat_le ACTIONS_MAX (length r.entries) then Some ActionsFull
    else (if nat_le MADE_MAX r.made then Some CountersFull
    else None))

-- the refusal is told; want of memory may be told where there is none, and no room was reserved
abbrev pub Told : {T : Type 0} → Option RegistryFault → ℕ → Result T RegistryFault → Type 0
Told (Some fault) spare result = result ≡ Err fault
Told None spare result = IfErr result (λ fault. (fault ≡ NoMemory no_memory) × (spare ≡ 0))

-- why that action is not deleted, where it was found (tcf_idr_delete_index)
abbrev pub delete_refusal : {P : Type 0} → Option (Entry P) → Option RegistryFault
delete_refusal None = Some NoSuchAction
delete_refusal (Some e) = if nat_lt 0 e.binds then Some (ActionBound e.binds) else None
