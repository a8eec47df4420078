use Rattle.std.proofs.Common.{None, refl}
use Rattle.fate_times.proofs.Stayed.{has_stayed}
use Rattle.fate_times.proofs.staying.stay.Goals as goal

pub returns : goal.returns
returns g c =
    let answers_of = g.A.PointAnswers.answer in
    let packet = c.args.packet.now in
    let it = has_stayed answers_of (answers_of packet.answers.now) c.args.point
    (record { answers = packet.answers; point = c.args.point; next = None }) c.run.new.visits packet.hook
    packet.bytes.now c.run.ensures.0 c.run.ensures.1 c.begin.new.self.standing c.run.new.walk.standing refl refl
    refl c.begin.ensures.standing c.run.ensures.2 c.run.ensures.3 c.requires.answered in
    record { fate = it.0; behind = it.1; ended = (c.run.ensures.1, c.run.ensures.3) }
