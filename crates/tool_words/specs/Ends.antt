-- How the program ends. The numbers are this project's own.
use Rattle.std.specs.Prelude.{ℕ, zero, suc, Bool, true, false}
use Rattle.tc_base.specs.declared.outside.Put.{Put}
use Rattle.tc_base.specs.declared.outside.Put.TheVariants as puts
use Rattle.tool_words.specs.declared.status.Status.{Status}
use Rattle.tool_words.specs.declared.status.Status.TheVariants as statuses

-- where bytes were not put or written
abbrev pub status_of : Put → Status
status_of puts.Failed = statuses.WriteFault
status_of (puts.NoMemory memory) = statuses.NoMemory memory

-- where all was done: a batch stops at its first refused line
abbrev pub status_after : Bool → Status
status_after false = statuses.Done
status_after true = statuses.LinesRefused 1

-- where all was done and so many lines of a run were refused
abbrev pub status_of_refused : ℕ → Status
status_of_refused zero = statuses.Done
status_of_refused (suc more) = statuses.LinesRefused (suc more)

-- where all was told of a change: so many lines were refused, which goes before so many packets that weren't hitless
abbrev pub status_of_foreseen : ℕ → ℕ → Status
status_of_foreseen zero zero = statuses.Done
status_of_foreseen zero (suc more) = statuses.NotHitless (suc more)
status_of_foreseen (suc more) count = statuses.LinesRefused (suc more)

-- all was done, whether or not a line was refused, a report is lawful, or a change is hitless
abbrev pub IsAllDone : Status → Type 0
IsAllDone statuses.Done = Unit {0}
IsAllDone (statuses.LinesRefused count) = Unit {0}
IsAllDone (statuses.NotLawful line reason) = Unit {0}
IsAllDone (statuses.NotHitless count) = Unit {0}
IsAllDone status = ⊥

-- the number with which the process ends
abbrev pub exit_of : Status → ℕ
exit_of statuses.Done = 0
exit_of (statuses.LinesRefused count) = 1
exit_of statuses.Usage = 2
exit_of (statuses.BadInput name place kind) = 3
exit_of (statuses.ReadFault name) = 4
exit_of statuses.WriteFault = 5
exit_of (statuses.NoMemory memory) = 6
exit_of (statuses.NotLawful line reason) = 7
exit_of (statuses.NotHitless count) = 8
