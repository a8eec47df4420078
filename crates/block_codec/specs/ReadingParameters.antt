-- The parameters that are made of five words, whether or not these are their words (this project's own).
use Rattle.std.specs.Prelude.{ℕ, ◌-◌, ◌/◌, ◌%◌, ◌^◌, ◌==◌, List, Option, Some, None, slice_index}
use Rattle.std.specs.Prelude.{if◌then◌else◌}
use Rattle.act_kinds.specs.declared.params.Control.{Control}
use Rattle.act_kinds.specs.declared.params.Control.TheVariants as controls
use Rattle.act_kinds.specs.declared.params.VlanOp.{VlanOp}
use Rattle.act_kinds.specs.declared.params.VlanOp.TheVariants as ops
use Rattle.act_kinds.specs.declared.params.Params.{Params}
use Rattle.act_kinds.specs.declared.params.Params.TheVariants as params

-- the control with a number, and where it goes to
abbrev pub control_of : ℕ → ℕ → Option Control
control_of number place =
    if number == 1 then Some controls.Accept
    else if number == 2 then Some controls.Shot
    else if number == 3 then Some controls.Unspec
    else if number == 4 then Some controls.Pipe
    else if number == 5 then Some controls.Reclassify
    else if number == 6 then Some (controls.Jump place)
    else if number == 7 then Some (controls.Goto place)
    else None

abbrev pub control_in : ℕ → Option Control
control_in word = control_of (word % 2 ^ 32) (word / 2 ^ 32)

-- a number less 1, where it isn't 0
abbrev pub priority_in : ℕ → Option ℕ
priority_in word = if word == 0 then None else Some ((word - 1) % 2 ^ 8)

-- what is done to a tag, by a number
abbrev pub vlan_in : ℕ → ℕ → ℕ → Option VlanOp
vlan_in number tag priority =
    if number == 1 then Some (ops.Push (tag / 2 ^ 32 % 2 ^ 16) (tag % 2 ^ 16) ((priority - 1) % 2 ^ 8))
    else if number == 2 then Some ops.Pop
    else if number == 3 then Some (ops.Modify (tag / 2 ^ 32 % 2 ^ 16) (tag % 2 ^ 16) (priority_in priority))
    else None

-- a number, where its flag is 1
abbrev pub given_if : ℕ → ℕ → Option ℕ
given_if flag number = if flag == 1 then Some number else None

abbrev pub skbedit_in : ℕ → ℕ → ℕ → Control → Params
skbedit_in flags marks queue control = params.Skbedit (given_if (flags % 2) (marks % 2 ^ 32))
    (given_if (flags / 2 % 2) (marks / 2 ^ 32)) (given_if (flags / 4 % 2) (queue % 2 ^ 16)) control

abbrev pub vlan_with : Control → Option VlanOp → Option Params
vlan_with control None = None
vlan_with control (Some op) = Some (params.Vlan op control)

-- the parameters of a kind with a control
abbrev pub params_with : ℕ → Option Control → ℕ → ℕ → ℕ → Option Params
params_with kind None a b c = None
params_with kind (Some control) a b c =
    if kind == 1 then Some (params.Gact control)
    else if kind == 2 then vlan_with control (vlan_in a b c)
    else if kind == 3 then Some (skbedit_in a b c control)
    else None

abbrev pub params_in : List ℕ → Option Params
params_in words = params_with (slice_index words 0) (control_in (slice_index words 1)) (slice_index words 2)
    (slice_index words 3) (slice_index words 4)
