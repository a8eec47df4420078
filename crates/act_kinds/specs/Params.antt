-- Kinds and controls of parameters.
use Rattle.std.specs.Prelude.{ℕ}
use Rattle.act_kinds.specs.declared.params.Control.{Control}
use Rattle.act_kinds.specs.declared.params.Kind.{Kind}
use Rattle.act_kinds.specs.declared.params.Kind.TheVariants as kinds
use Rattle.act_kinds.specs.declared.params.Params.{Params}
use Rattle.act_kinds.specs.declared.params.Params.TheVariants as params

abbrev pub kind_of : Params → Kind
kind_of (params.Gact control) = kinds.Gact
kind_of (params.Vlan op control) = kinds.Vlan
kind_of (params.Skbedit priority mark queue control) = kinds.Skbedit

abbrev pub with_control : Params → Control → Params
with_control (params.Gact old) control = params.Gact control
with_control (params.Vlan op old) control = params.Vlan op control
with_control (params.Skbedit priority mark queue old) control = params.Skbedit priority mark queue control

-- the number of a kind: gact 1, vlan 2, skbedit 3 (this project's own)
abbrev pub number_of_kind : Kind → ℕ
number_of_kind kinds.Gact = 1
number_of_kind kinds.Vlan = 2
number_of_kind kinds.Skbedit = 3

abbrev pub kind_number : Params → ℕ
kind_number given = number_of_kind (kind_of given)
