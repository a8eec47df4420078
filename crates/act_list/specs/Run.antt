-- A run of a list of actions: where it stands, and how each control moves it (tc-actions(8), CONTROL; for
-- jumps, tcf_action_exec of the kernel's net/sched/act_api.c).
use Rattle.std.specs.Prelude.{◌<◌, ◌≤◌, ℕ, ◌+◌, ◌-◌, Bool, true, false, ◌==◌, ◌||◌, nat_le, if◌then◌else◌}
use Rattle.act_kinds.specs.declared.params.Control.{Control}
use Rattle.act_kinds.specs.declared.params.Control.TheVariants as controls
use Rattle.act_list.specs.declared.limits.TheConstants.{JUMPS_MAX, LIST_MAX}
use Rattle.act_list.specs.declared.run.Ending.{Ending}
use Rattle.act_list.specs.declared.run.Ending.TheVariants as endings
use Rattle.act_list.specs.declared.run.Next.{Next}
use Rattle.act_list.specs.declared.run.Next.TheVariants as nexts

-- at a position of the list, with so many jumps left, or at the end of the run
pub data Stand : Type 0 where
  on : ℕ → ℕ → Stand
  over : Ending → Stand

-- a run as contracts see it; once it has ended, `at` and `jumps` are those of its last action
pub record Run : Type 0 where
  pub length : ℕ
  pub at : ℕ
  pub jumps : ℕ
  pub ended : Bool

-- where a run of a list of that length begins: at the first action, with all jumps left
abbrev pub begun : ℕ → Run
begun length = record { length = length; at = 0; jumps = JUMPS_MAX; ended = false }

-- where a run stands after the action at a position has given its control
abbrev pub stand_after : ℕ → ℕ → ℕ → Control → Stand
stand_after length at jumps controls.Accept = over endings.Accept
stand_after length at jumps controls.Shot = over endings.Shot
stand_after length at jumps controls.Unspec = over endings.Unspec
stand_after length at jumps controls.Reclassify = over endings.Reclassify
stand_after length at jumps (controls.Goto chain) = over (endings.Goto chain)
stand_after length at jumps controls.Pipe = if at + 1 == length then over endings.Pipe else on (at + 1) jumps
stand_after length at jumps (controls.Jump to) =
    if to == 0 || (nat_le length to || jumps == 0) then over endings.Accept else on to (jumps - 1)

-- where a run that hasn't ended stands after its action has given that control
abbrev pub after : Run → Control → Stand
after run control = stand_after run.length run.at run.jumps control

-- what is told of where a run stands
abbrev pub told : Stand → Next
told (on at jumps) = nexts.At at
told (over ending) = nexts.Ended ending

-- a run that has come to stand there
abbrev pub moved : Run → Stand → Run
moved run (on at jumps) = record run { at = at; jumps = jumps }
moved run (over ending) = record run { ended = true }

-- the position is one of the list, and no more is left than was given
abbrev pub IsSound : ℕ → ℕ → ℕ → Type 0
IsSound length at jumps = (at < length) × (length ≤ LIST_MAX) × (jumps ≤ JUMPS_MAX)
