-- Which edits make an action, and which change one (this project's own). `s` is the state before the edit.
use Rattle.std.specs.Prelude.{◌≡◌, ◌⊎◌, true, false}
use Rattle.std.specs.Option.{unwrap_or}
use Rattle.filter_state.specs.declared.action_line.ActionLine.{ActionLine}
use Rattle.filter_state.specs.declared.edit.Edit.{Edit}
use Rattle.filter_state.specs.declared.edit.Edit.TheVariants as edits
use Rattle.filter_state.specs.States.{State}
use Rattle.filter_state.specs.Actions.{is_live}

-- an add does, and a change of one that isn't live
abbrev pub IsMaking : State → ActionLine → Edit → Type 0
IsMaking s line y = (y ≡ edits.ActionAdd line)
    ⊎ ((y ≡ edits.ActionChange line) × (is_live line.kind (unwrap_or line.index 0) s.actions ≡ false))

abbrev pub IsChanging : State → ActionLine → Edit → Type 0
IsChanging s line y = (y ≡ edits.ActionChange line)
    × (is_live line.kind (unwrap_or line.index 0) s.actions ≡ true)
