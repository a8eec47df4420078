use Rattle.report_check.proofs.Refusing.{shows_next}
use Rattle.report_check.proofs.packets.read_next.Goals as goal

pub returns-in-Some-clause-shows : goal.returns-in-Some-clause-shows
returns-in-Some-clause-shows c =
    shows_next c.read_packet_line.result c.args.report.now c.args.cursor c.in-Some.line.now c.read_packet_line.new.points.items c.in-Some.ensures.some c.read_packet_line.ensures.shown
