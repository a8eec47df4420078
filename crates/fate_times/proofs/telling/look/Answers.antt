use Rattle.std.proofs.Common.{◌∙◌, arith, sym}
use Rattle.walk_fate_laws.specs.Stays.{fate_at_end}
use Rattle.fate_times.proofs.Fated.{told_times}
use Rattle.fate_times.proofs.Told.{steady_set}
use Rattle.fate_times.proofs.Seen.{two_seen}
use Rattle.fate_times.proofs.telling.look.Goals as goal

pub look_between-requires-clause-none : goal.look_between-requires-clause-none
look_between-requires-clause-none g c =
    let packet = c.args.packet.now in
    two_seen (g.A.PointAnswers.answer packet.answers.now) packet.hook packet.bytes.now packet.before
    packet.ceiling c.args.fates.now c.args.whens.now c.mark.new.whens c.mark-2.new.whens
    (fate_at_end c.stay-next.new.walk.standing) (fate_at_end c.stay.new.walk.standing) c.requires.none
    (c.stay-next.ensures.fate packet.before (omega arith) c.stay-next.ensures.behind)
    (c.stay.ensures.fate packet.ceiling (omega arith) c.stay.ensures.behind) c.mark.ensures c.mark-2.ensures

pub returns : goal.returns
returns g c =
    let packet = c.args.packet.now in
    c.look_between.ensures ∙ told_times (g.A.PointAnswers.answer packet.answers.now) packet.before packet.ceiling
    packet.hook packet.bytes.now c.args.fates.now c.requires.fates

pub returns-then-not-more : goal.returns-then-not-more
returns-then-not-more g c =
    let packet = c.args.packet.now in
    steady_set (g.A.PointAnswers.answer packet.answers.now) packet.before packet.ceiling packet.hook
    packet.bytes.now c.requires.order c.requires.ends (sym c.requires.more ∙ c.if-not-more.true)
    c.args.fates.now c.args.whens.now (omega (arith, c.len.ensures, c.if-len-eq1.true)) c.requires.fates
    c.requires.none
