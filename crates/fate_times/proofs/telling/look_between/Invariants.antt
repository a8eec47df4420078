use Rattle.std.proofs.Common.{ℕ, suc, ◌-◌, Option, Some, None}
use Rattle.fate_times.proofs.Seen.{AreSeen}
use Rattle.fate_times.proofs.telling.look_between.Given as goal

-- the states before the next point were looked at
abbrev pub invariant-loop-next : goal.invariant-loop-next
invariant-loop-next g l = AreSeen (g.A.PointAnswers.answer l.packet.answers.now) l.packet.hook l.packet.bytes.now
    l.packet.before l.packet.ceiling l.next l.fates l.whens

abbrev left : ℕ → Option ℕ → ℕ
left ceiling None = 0
left ceiling (Some point) = suc (ceiling - point)

abbrev pub decreases-loop-next : goal.decreases-loop-next
decreases-loop-next g l = left l.packet.ceiling l.next
