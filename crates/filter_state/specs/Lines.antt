-- Which edits a batch line can say. The ranges are this project's own where no source is given.
use Rattle.filter_state.specs.declared.limits.TheConstants.{LINE_ACTIONS_MAX}
use Rattle.std.specs.Prelude.{◌≡◌, ℕ, ◌<◌, ◌≤◌, List, [], ◌∷◌, length, Option, Some, None, IfSome, IsSomeAnd}
use Rattle.std.specs.Prelude.{IsSome}
use Rattle.act_kinds.specs.declared.params.Control.{Control}
use Rattle.act_kinds.specs.declared.params.Control.TheVariants as controls
use Rattle.act_kinds.specs.declared.params.Params.{Params}
use Rattle.act_kinds.specs.declared.params.Params.TheVariants as params
use Rattle.act_kinds.specs.Params.{kind_of}
use Rattle.act_kinds.specs.Ranges.{IsChain, AreParams}
use Rattle.tc_base.specs.declared.hook.Proto.{Proto}
use Rattle.tc_base.specs.declared.hook.Proto.TheVariants as protocols
use Rattle.filter_state.specs.declared.action_line.ActionLine.{ActionLine}
use Rattle.filter_state.specs.declared.edit.FilterLine.{FilterLine}
use Rattle.filter_state.specs.declared.edit.Edit.{Edit}
use Rattle.filter_state.specs.declared.edit.Edit.TheVariants as edits
use Rattle.filter_state.specs.Fields.{AreKeys}

-- the kernel keeps a pref in 16 bits (TC_H_MIN of tcm_info, include/uapi/linux/rtnetlink.h)
abbrev pub IsPref : ℕ → Type 0
IsPref number = (1 ≤ number) × (number ≤ 65535)

-- a handle of a filter or an index of an action
abbrev pub IsIndex : ℕ → Type 0
IsIndex number = (1 ≤ number) × (number ≤ 4294967295)

abbrev pub IsProtocol : Proto → Type 0
IsProtocol protocols.All = Unit {0}
IsProtocol (protocols.Ether number) = number < 65536

abbrev pub control_of : Params → Control
control_of (params.Gact control) = control
control_of (params.Vlan op control) = control
control_of (params.Skbedit priority mark queue control) = control

abbrev pub GoesToNoChain : Control → Type 0
GoesToNoChain (controls.Goto chain) = ⊥
GoesToNoChain control = Unit {0}

-- an action in full has the kind of its parameters
abbrev pub IsInFull : ActionLine → Params → Type 0
IsInFull action given = (action.kind ≡ kind_of given) × AreParams given × IfSome action.index IsIndex

-- in a filter an action may be named by its kind and index alone
abbrev pub IsOfFilter : Option Params → ActionLine → Type 0
IsOfFilter (Some given) action = IsInFull action given
IsOfFilter None action = IsSomeAnd action.index IsIndex

abbrev pub IsFilterAction : ActionLine → Type 0
IsFilterAction action = IsOfFilter action.params action

-- an action apart from filters is in full, and goes to no chain
abbrev pub IsSharedAction : ActionLine → Type 0
IsSharedAction action =
    IsSomeAnd action.params (λ given. IsInFull action given × GoesToNoChain (control_of given))

abbrev pub AreFilterActions : List ActionLine → Type 0
AreFilterActions [] = Unit {0}
AreFilterActions (action ∷ actions) = IsFilterAction action × AreFilterActions actions

pub record IsFilter (line : FilterLine) : Type 0 where
  pub protocol : IsProtocol line.protocol
  pub chain : IsChain line.chain
  pub pref : IfSome line.pref IsPref
  pub handle : IfSome line.handle IsIndex
  pub keys : AreKeys line.key.words line.mask.words
  pub actions : AreFilterActions line.actions
  pub most : length line.actions ≤ LINE_ACTIONS_MAX

-- the edit is one that a batch line can say
abbrev pub IsLine : Edit → Type 0
IsLine edits.HookAdd = Unit {0}
IsLine edits.HookDel = Unit {0}
IsLine (edits.FilterAdd line) = IsFilter line
IsLine (edits.FilterReplace line) = IsFilter line × IsSome line.pref × IsSome line.handle
IsLine (edits.FilterDel hook protocol chain pref handle) = IfSome protocol IsProtocol × IsChain chain
    × IsPref pref × IfSome handle IsIndex
IsLine (edits.ActionAdd action) = IsSharedAction action
IsLine (edits.ActionChange action) = IsSharedAction action × IsSome action.index
IsLine (edits.ActionDel kind index) = IsIndex index
