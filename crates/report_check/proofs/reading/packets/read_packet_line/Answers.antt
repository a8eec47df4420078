use Rattle.report_check.proofs.OfReading.PacketParts.{points_there}
use Rattle.report_check.proofs.reading.packets.read_packet_line.Goals as goal

pub returns-then-is_read-clause-shown : goal.returns-then-is_read-clause-shown
returns-then-is_read-clause-shown c = λ number worker points it.
    let there = points_there c.args.line.now number worker points it in (
      c.worker_of.ensures number worker points it,
      (c.in_ok-is_read.ensures.read points it.points_small (c.points_of.ensures there.0 points there.1)).1,
    )

pub returns-else-is_read-clause-shown : goal.returns-else-is_read-clause-shown
returns-else-is_read-clause-shown c = λ number worker points it.
    let there = points_there c.args.line.now number worker points it in
    absurd (cc (c.if-is_read.false, (c.in_ok-is_read.ensures.read points it.points_small (c.points_of.ensures there.0 points there.1)).0))
