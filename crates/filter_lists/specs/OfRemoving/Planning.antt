-- What is left of the step once the table is found (this project's own).
use Rattle.std.specs.Prelude.{ℕ, ◌&&◌, Option, Some, None, Ok}
use Rattle.tc_base.specs.declared.hook.Hook.{Hook}
use Rattle.filter_state.specs.declared.refusal.Done.TheVariants as dones
use Rattle.filter_state.specs.States.{State}
use Rattle.filter_state.specs.Tables.{in_table, has_handle}
use Rattle.filter_state.specs.Refusals.{no_such_filter}
use Rattle.filter_state.specs.Steps.{Stepped, unless, taken_out}

abbrev pub step_found : State → Hook → ℕ → ℕ → Option ℕ → Stepped
step_found s hook chain pref (Some handle) =
    unless (no_such_filter s hook chain pref handle)
    (Ok (taken_out s (λ row. in_table hook chain pref row && has_handle handle row), dones.FilterGone))
step_found s hook chain pref None = Ok (taken_out s (in_table hook chain pref), dones.TableGone)
