use Rattle.std.proofs.Common.{sym, subst, refl}
use Rattle.pcap_io.specs.Places.{packet_of}
use Rattle.run_report.specs.Kept.{outcome_seen}
use Rattle.lawful_runs.specs.Given.{Arrival}
use Rattle.worker_rounds.specs.OfLogs.Rows.{row_of}
use Rattle.worker_rounds.specs.Worked.{arrivals_of, IsWorked}
use Rattle.worker_rounds.proofs.Recorded.{walked_of}
use Rattle.worker_rounds.proofs.Further.{one_more, arrival_at, ok_then}
use Rattle.worker_rounds.proofs.working.work_one.Goals as goal

pub returns-clause-worked : goal.returns-clause-worked
returns-clause-worked g c =
    let hook = c.args.round.now.hook in
    let packets = c.args.round.now.packets.now in
    let worker = c.args.worker.now in
    let packet = packet_of c.get-packet.result in
    let outcome = outcome_seen c.recorded.result in
    let arrival : Arrival = record { hook = hook; packet = packet } in
    let walk = c.walk_packet.new.walk in
    let passed = c.walk_packet.ensures.walked in
    let walked = walked_of worker.reader c.walk_packet.new.reader hook packet.bytes walk outcome arrival passed c.recorded.ensures.recorded c.recorded.ensures.points refl refl in
    ok_then c.push.result c.push.ensures.put (λ put first it.
    subst (IsWorked worker.number (arrivals_of hook packets) first c.walk_packet.new.reader) (sym put)
    (one_more worker.number (arrivals_of hook packets) first worker.reader c.walk_packet.new.reader c.args.log.now (row_of c.args.number outcome) arrival hook packet.bytes walk
    it passed c.recorded.ensures.points c.walk_packet.ensures.pin (arrival_at hook packets c.args.number packet c.get-packet.ensures) walked c.recorded.ensures.worker c.requires.below))
