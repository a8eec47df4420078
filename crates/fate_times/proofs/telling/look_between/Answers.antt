use Rattle.std.proofs.Common.{◌∙◌, ℕ, Option, sym, subst}
use Rattle.walk_fate_laws.specs.Stays.{fate_at_end}
use Rattle.fate_times.proofs.Seen.{AreSeen, first_seen, more_seen, all_seen, found_all, past_some, past_none}
use Rattle.fate_times.proofs.telling.look_between.Goals as goal
use Rattle.fate_times.proofs.telling.look_between.Goals.{then-packet-point-via-then-packet-point}
use Rattle.fate_times.proofs.telling.look_between.Goals.{then-packet-point-via-else-packet-point+then-not-is_one_mixed}

pub loop-next-init : goal.loop-next-init
loop-next-init g c =
    let packet = c.args.packet.now in
    first_seen (g.A.PointAnswers.answer packet.answers.now) packet.hook packet.bytes.now packet.before
    packet.ceiling c.args.first c.args.fates.now c.args.whens.now c.requires.none c.requires.ahead
    c.requires.same

pub returns-then-packet-point : goal.returns-then-packet-point
returns-then-packet-point g c =
    let packet = c.args.packet.now in let answers = g.A.PointAnswers.answer packet.answers.now in
    let seen = c.loop-next.invariant in
    elim c.then-packet-point.branch [
      | then-packet-point-via-then-packet-point w ↦ all_seen answers packet.hook packet.bytes.now packet.before
          packet.ceiling c.loop-next.next c.args.fates.now c.loop-next.whens seen
          (past_some c.loop-next.next c.in-Some.point packet.ceiling c.in-Some.is w.if-packet-point.true)
      | then-packet-point-via-else-packet-point+then-not-is_one_mixed w ↦ found_all answers packet.hook
          packet.bytes.now packet.before packet.ceiling c.loop-next.next c.args.fates.now c.loop-next.whens seen
          (sym w.is_one_mixed.ensures ∙ w.if-not-is_one_mixed.true)
    ]

pub loop-next-preserved : goal.loop-next-preserved
loop-next-preserved g c =
    let packet = c.args.packet.now in let answers = g.A.PointAnswers.answer packet.answers.now in
    let seen = subst (λ (next : Option ℕ). AreSeen answers packet.hook packet.bytes.now packet.before
    packet.ceiling next c.args.fates.now c.loop-next.whens) c.in-Some.is c.loop-next.invariant in
    more_seen answers packet.hook packet.bytes.now packet.before packet.ceiling c.in-Some.point
    c.stay-next.result c.args.fates.now c.loop-next.whens c.mark.new.whens
    (fate_at_end c.stay-next.new.walk.standing) seen c.if-packet-point.false c.stay-next.ensures.fate
    c.stay-next.ensures.behind c.mark.ensures

pub returns : goal.returns
returns g c =
    let packet = c.args.packet.now in
    all_seen (g.A.PointAnswers.answer packet.answers.now) packet.hook packet.bytes.now packet.before
    packet.ceiling c.loop-next.next c.args.fates.now c.loop-next.whens c.loop-next.invariant
    (λ point below. past_none c.loop-next.next c.in_default.is point)
