-- Which parameters a batch line can give (tc-actions(8), tc-vlan(8), tc-skbedit(8)).
use Rattle.act_kinds.specs.declared.limits.TheConstants.{CHAIN_MAX}
use Rattle.std.specs.Prelude.{◌≡◌, ℕ, ◌<◌, ◌≤◌, ◌^◌, ◌⊎◌, Option, IfSome, IsSome}
use Rattle.act_kinds.specs.declared.params.Control.{Control}
use Rattle.act_kinds.specs.declared.params.Control.TheVariants as controls
use Rattle.act_kinds.specs.declared.params.VlanOp.{VlanOp}
use Rattle.act_kinds.specs.declared.params.VlanOp.TheVariants as ops
use Rattle.act_kinds.specs.declared.params.Params.{Params}
use Rattle.act_kinds.specs.declared.params.Params.TheVariants as params

-- a chain, or a place to jump to
abbrev pub IsChain : ℕ → Type 0
IsChain number = number ≤ CHAIN_MAX

-- IEEE 802.1Q, clause 9.5: the EtherTypes of a customer's and of a service's tag
abbrev pub IsTpid : ℕ → Type 0
IsTpid number = (number ≡ 0x8100) ⊎ (number ≡ 0x88A8)

-- IEEE 802.1Q, table 9-2: 4095 names no VLAN
abbrev pub IsVlanId : ℕ → Type 0
IsVlanId number = number ≤ 4094

abbrev pub IsVlanPriority : ℕ → Type 0
IsVlanPriority number = number ≤ 7

abbrev pub IsVlanOp : VlanOp → Type 0
IsVlanOp (ops.Push tpid id priority) = IsTpid tpid × IsVlanId id × IsVlanPriority priority
IsVlanOp ops.Pop = Unit {0}
IsVlanOp (ops.Modify tpid id priority) = IsTpid tpid × IsVlanId id × IfSome priority IsVlanPriority

abbrev pub IsControl : Control → Type 0
IsControl (controls.Jump place) = IsChain place
IsControl (controls.Goto chain) = IsChain chain
IsControl control = Unit {0}

-- skbedit sets one of its three at least
abbrev pub AreMarks : Option ℕ → Option ℕ → Option ℕ → Type 0
AreMarks priority mark queue =
    (IsSome priority ⊎ IsSome mark ⊎ IsSome queue)
    × IfSome priority (λ n. n < 2 ^ 32) × IfSome mark (λ n. n < 2 ^ 32) × IfSome queue (λ n. n < 2 ^ 16)

abbrev pub AreParams : Params → Type 0
AreParams (params.Gact control) = IsControl control
AreParams (params.Vlan op control) = IsVlanOp op × IsControl control
AreParams (params.Skbedit priority mark queue control) = AreMarks priority mark queue × IsControl control
