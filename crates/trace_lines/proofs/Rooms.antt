-- A push that found no room left the frame as it was, and is the only one that left the length of a frame with a
-- header.
use Rattle.std.proofs.Common.{◌≡◌, ℕ, ◌+◌, ◌≤◌, Bool, true, false, List, ◌++◌, length, take, drop, refl, arith, length-append, length-take, length-drop}
use Rattle.std.specs.Prelude.{◌==◌, ◌&&◌, ◌||◌, nat_le, nat_lt, if◌then◌else◌, None}
use Rattle.std.proofs.lemmas.Bool.Decides.{nat_tests}
use Rattle.frame_edit.specs.declared.limits.TheConstants.{FRAME_MAX}
use Rattle.frame_edit.specs.EditedFrame.{EditedFrame, lacks_room, with_bytes}
use Rattle.frame_edit.specs.Tags.{has_ethernet, with_tag, tag_bytes, pushed, control_of}
use Rattle.act_kinds.specs.declared.params.Params.{Params}
use Rattle.act_kinds.specs.declared.params.Params.TheVariants as params
use Rattle.act_kinds.specs.declared.params.VlanOp.TheVariants as ops
use Rattle.act_kinds.specs.declared.params.Control.{Control}
use Rattle.act_kinds.specs.declared.params.Control.TheVariants as controls
use Rattle.act_kinds.specs.Acts.{acted_on, control_given}
use Rattle.trace_lines.specs.Lines.{finds_no_room, restart_chain}
use Rattle.trace_lines.specs.Parts.{no_room, control_in}

tag_count : (tpid tci : ℕ) → length (tag_bytes tpid tci) ≡ 4
tag_count tpid tci = refl

tagged_longer : (bytes : List ℕ) (tpid tci : ℕ) → 14 ≤ length bytes → length (with_tag bytes tpid tci) ≡ length bytes + 4
tagged_longer bytes tpid tci long =
    let all = length-append (take 12 bytes) (tag_bytes tpid tci ++ drop 12 bytes) in
    let rest = length-append (tag_bytes tpid tci) (drop 12 bytes) in
    let front = length-take 12 bytes in
    let back = length-drop 12 bytes in
    let four = tag_count tpid tci in
    omega (arith, all, rest, front, back, four)

-- by whether there is a header, and whether the frame would be too long
room_by : (header full : Bool) (frame : EditedFrame) (tpid tci : ℕ) → header ≡ nat_le 14 (length frame.bytes)
    → (header && length frame.bytes
    == length (if header && full then frame else with_bytes frame (if header then with_tag frame.bytes tpid tci else frame.bytes)).bytes)
    ≡ (header && full)
room_by false full frame tpid tci is = refl
room_by true true frame tpid tci is = grind (arith, nat_tests)
room_by true false frame tpid tci is =
    let long : 14 ≤ length frame.bytes = grind (arith, nat_tests, is) in
    let longer : length (with_tag frame.bytes tpid tci) ≡ length frame.bytes + 4 = tagged_longer frame.bytes tpid tci long in
    rw longer (grind (arith, nat_tests))

push_room : (frame : EditedFrame) (tpid tci : ℕ)
    → (has_ethernet frame.bytes && length frame.bytes
    == length (if lacks_room frame then frame else with_bytes frame (pushed frame.bytes tpid tci)).bytes) ≡ lacks_room frame
push_room frame tpid tci =
    room_by (has_ethernet frame.bytes) (nat_lt (frame.loaded + 64) (length frame.bytes + 4) || nat_lt FRAME_MAX (length frame.bytes + 4))
    frame tpid tci refl

pub room_is : (given : Params) (frame : EditedFrame)
    → no_room given (length frame.bytes) (length (acted_on given frame).bytes) ≡ finds_no_room given frame
room_is (params.Gact control) frame = refl
room_is (params.Vlan (ops.Push tpid id priority) control) frame = push_room frame tpid (control_of priority 0 id)
room_is (params.Vlan ops.Pop control) frame = refl
room_is (params.Vlan (ops.Modify tpid id priority) control) frame = refl
room_is (params.Skbedit priority mark queue control) frame = refl

shot : (full : Bool) (control : Control) → (if full then None else restart_chain control) ≡ restart_chain (if full then controls.Shot else control)
shot true control = refl
shot false control = refl

pub chain_is : (given : Params) (frame : EditedFrame)
    → (if finds_no_room given frame then None else restart_chain (control_in given)) ≡ restart_chain (control_given given frame)
chain_is (params.Gact control) frame = refl
chain_is (params.Vlan (ops.Push tpid id priority) control) frame = shot (lacks_room frame) control
chain_is (params.Vlan ops.Pop control) frame = refl
chain_is (params.Vlan (ops.Modify tpid id priority) control) frame = refl
chain_is (params.Skbedit priority mark queue control) frame = refl
