-- What an action does to a frame, and the control that it gives.
use Rattle.std.specs.Prelude.{ℕ, ◌<◌, Option, unwrap_or, if◌then◌else◌}
use Rattle.std.specs.Option.{ForSome}
use Rattle.frame_edit.specs.declared.meta.Meta.{Meta}
use Rattle.frame_edit.specs.EditedFrame.{EditedFrame, lacks_room, with_bytes}
use Rattle.frame_edit.specs.Tags.{control_of, pushed, popped, modified}
use Rattle.act_kinds.specs.declared.params.Control.{Control}
use Rattle.act_kinds.specs.declared.params.Control.TheVariants as controls
use Rattle.act_kinds.specs.declared.params.VlanOp.{VlanOp}
use Rattle.act_kinds.specs.declared.params.VlanOp.TheVariants as ops
use Rattle.act_kinds.specs.declared.params.Params.{Params}
use Rattle.act_kinds.specs.declared.params.Params.TheVariants as params

-- tc-skbedit(8): each of the three is set where it is given
abbrev pub with_marks : Option ℕ → Option ℕ → Option ℕ → Meta → Meta
with_marks priority mark queue meta =
    record {
      priority = unwrap_or priority meta.priority;
      mark = unwrap_or mark meta.mark;
      queue = unwrap_or queue meta.queue;
    }

-- tc-vlan(8): a pushed tag has the given id and priority, and is not drop eligible; a push that finds no room
-- changes nothing
abbrev pub retagged_by : VlanOp → EditedFrame → EditedFrame
retagged_by (ops.Push tpid id priority) frame = if lacks_room frame then frame
    else with_bytes frame (pushed frame.bytes tpid (control_of priority 0 id))
retagged_by ops.Pop frame = with_bytes frame (popped frame.bytes)
retagged_by (ops.Modify tpid id priority) frame = with_bytes frame (modified frame.bytes id priority tpid)

-- the frame after an action
abbrev pub acted_on : Params → EditedFrame → EditedFrame
acted_on (params.Gact control) frame = frame
acted_on (params.Vlan op control) frame = retagged_by op frame
acted_on (params.Skbedit priority mark queue control) frame = record frame {
  meta = with_marks priority mark
      queue frame.meta;
}

-- a push that finds no room gives `drop`, whatever its control is: this project's own
abbrev pub control_by : VlanOp → Control → EditedFrame → Control
control_by (ops.Push tpid id priority) control frame = if lacks_room frame then controls.Shot else control
control_by ops.Pop control frame = control
control_by (ops.Modify tpid id priority) control frame = control

abbrev pub control_given : Params → EditedFrame → Control
control_given (params.Gact control) frame = control
control_given (params.Vlan op control) frame = control_by op control frame
control_given (params.Skbedit priority mark queue control) frame = control

-- IEEE 802.1Q, clause 9.6: an id has twelve bits, and a priority three
abbrev pub FitsTag : VlanOp → Type 0
FitsTag (ops.Push tpid id priority) = (id < 4096) × (priority < 8)
FitsTag ops.Pop = Unit {0}
FitsTag (ops.Modify tpid id priority) = (id < 4096) × ForSome priority (λ p. p < 8)

abbrev pub FitsFrames : Params → Type 0
FitsFrames (params.Gact control) = Unit {0}
FitsFrames (params.Vlan op control) = FitsTag op
FitsFrames (params.Skbedit priority mark queue control) = Unit {0}
