-- Which edits are of the qdisc (this project's own).
use Rattle.std.specs.Prelude.{◌≡◌, ◌⊎◌}
use Rattle.filter_state.specs.declared.edit.Edit.{Edit}
use Rattle.filter_state.specs.declared.edit.Edit.TheVariants as edits

-- it comes, or it goes
abbrev pub IsOfQdisc : Edit → Type 0
IsOfQdisc y = (y ≡ edits.HookAdd) ⊎ (y ≡ edits.HookDel)
