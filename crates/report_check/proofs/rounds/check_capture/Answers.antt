use Rattle.std.proofs.Common.{◌+◌, ◌-◌, length, get_or, ap, arith}
use Rattle.round_terms.proofs.JobFiles.{there_at}
use Rattle.report_check.proofs.Captures.{capture_within, short_packets, few_packets}
use Rattle.report_check.proofs.Rounding.{are_packets, none_arrive, all_arrived}
use Rattle.report_check.proofs.rounds.check_capture.Goals as goal

pub check_packets-requires-clause-short : goal.check_packets-requires-clause-short
check_packets-requires-clause-short c =
    let loaded = c.args.job.now in
    let round = get_or c.as_slice.result.now (c.args.number - 1) c.index-as_slice-number.result in
    let long = ap length c.as_slice.ensures in
    let bounds = c.requires.round in
    let there = there_at c.as_slice.result.now loaded.job.rounds (c.args.number - 1) c.index-as_slice-number.result c.as_slice.ensures (omega (arith, long, bounds)) in
    let within = capture_within loaded (c.args.number - 1) round c.in-Some.name c.requires.loaded there c.in-Some.is in
    let many = ap length c.as_slice-in-Some.ensures in
    let at = c.requires.captures in
    let held = there_at c.as_slice-in-Some.result.now loaded.captures c.args.captures c.index-as_slice-captures.result c.as_slice-in-Some.ensures (omega (arith, within, many, at)) in
    short_packets loaded c.args.captures (get_or c.as_slice-in-Some.result.now c.args.captures c.index-as_slice-captures.result) c.requires.loaded held

pub check_packets-requires-clause-few : goal.check_packets-requires-clause-few
check_packets-requires-clause-few c =
    let loaded = c.args.job.now in
    let round = get_or c.as_slice.result.now (c.args.number - 1) c.index-as_slice-number.result in
    let long = ap length c.as_slice.ensures in
    let bounds = c.requires.round in
    let there = there_at c.as_slice.result.now loaded.job.rounds (c.args.number - 1) c.index-as_slice-number.result c.as_slice.ensures (omega (arith, long, bounds)) in
    let within = capture_within loaded (c.args.number - 1) round c.in-Some.name c.requires.loaded there c.in-Some.is in
    let many = ap length c.as_slice-in-Some.ensures in
    let at = c.requires.captures in
    let held = there_at c.as_slice-in-Some.result.now loaded.captures c.args.captures c.index-as_slice-captures.result c.as_slice-in-Some.ensures (omega (arith, within, many, at)) in
    few_packets loaded c.args.captures (c.args.walkers.now.passed + c.args.walkers.now.dropped) (get_or c.as_slice-in-Some.result.now c.args.captures c.index-as_slice-captures.result) c.requires.loaded held c.requires.packets

pub check_packets-requires-clause-packets : goal.check_packets-requires-clause-packets
check_packets-requires-clause-packets c =
    let loaded = c.args.job.now in
    let round = get_or c.as_slice.result.now (c.args.number - 1) c.index-as_slice-number.result in
    let long = ap length c.as_slice.ensures in
    let bounds = c.requires.round in
    let there = there_at c.as_slice.result.now loaded.job.rounds (c.args.number - 1) c.index-as_slice-number.result c.as_slice.ensures (omega (arith, long, bounds)) in
    let within = capture_within loaded (c.args.number - 1) round c.in-Some.name c.requires.loaded there c.in-Some.is in
    let many = ap length c.as_slice-in-Some.ensures in
    let at = c.requires.captures in
    let held = there_at c.as_slice-in-Some.result.now loaded.captures c.args.captures c.index-as_slice-captures.result c.as_slice-in-Some.ensures (omega (arith, within, many, at)) in
    let p = c.requires.told in
    (p.0, are_packets p.0 loaded c.args.report.now c.args.number c.args.cursor.now c.args.replay.now c.args.walkers.now c.args.least c.args.captures round c.in-Some.name (get_or c.as_slice-in-Some.result.now c.args.captures c.index-as_slice-captures.result) p.1 there c.in-Some.is at held)

pub returns-in-None-clause-taken : goal.returns-in-None-clause-taken
returns-in-None-clause-taken c = λ is told it.
    let loaded = c.args.job.now in
    let round = get_or c.as_slice.result.now (c.args.number - 1) c.index-as_slice-number.result in
    let long = ap length c.as_slice.ensures in
    let bounds = c.requires.round in
    let there = there_at c.as_slice.result.now loaded.job.rounds (c.args.number - 1) c.index-as_slice-number.result c.as_slice.ensures (omega (arith, long, bounds)) in
    none_arrive told loaded c.args.report.now c.args.number c.args.cursor.now c.args.replay.now c.args.walkers.now c.args.least round it there c.in-None.is

pub returns-in-Some-clause-taken : goal.returns-in-Some-clause-taken
returns-in-Some-clause-taken c = λ is told it.
    let loaded = c.args.job.now in
    let round = get_or c.as_slice.result.now (c.args.number - 1) c.index-as_slice-number.result in
    let long = ap length c.as_slice.ensures in
    let bounds = c.requires.round in
    let there = there_at c.as_slice.result.now loaded.job.rounds (c.args.number - 1) c.index-as_slice-number.result c.as_slice.ensures (omega (arith, long, bounds)) in
    let within = capture_within loaded (c.args.number - 1) round c.in-Some.name c.requires.loaded there c.in-Some.is in
    let many = ap length c.as_slice-in-Some.ensures in
    let at = c.requires.captures in
    let capture = get_or c.as_slice-in-Some.result.now c.args.captures c.index-as_slice-captures.result in
    let held = there_at c.as_slice-in-Some.result.now loaded.captures c.args.captures c.index-as_slice-captures.result c.as_slice-in-Some.ensures (omega (arith, within, many, at)) in
    let are = are_packets told loaded c.args.report.now c.args.number c.args.cursor.now c.args.replay.now c.args.walkers.now c.args.least c.args.captures round c.in-Some.name capture it there c.in-Some.is at held in
    all_arrived told c.args.report.now c.args.cursor.now c.check_packets.new.cursor c.args.replay.now c.args.walkers.now c.check_packets.new.walkers c.args.least c.in-Some.name capture are (c.check_packets.ensures.taken is told are)

pub returns-in-Some-clause-stuck : goal.returns-in-Some-clause-stuck
returns-in-Some-clause-stuck c = λ is told it.
    let loaded = c.args.job.now in
    let round = get_or c.as_slice.result.now (c.args.number - 1) c.index-as_slice-number.result in
    let long = ap length c.as_slice.ensures in
    let bounds = c.requires.round in
    let there = there_at c.as_slice.result.now loaded.job.rounds (c.args.number - 1) c.index-as_slice-number.result c.as_slice.ensures (omega (arith, long, bounds)) in
    let within = capture_within loaded (c.args.number - 1) round c.in-Some.name c.requires.loaded there c.in-Some.is in
    let many = ap length c.as_slice-in-Some.ensures in
    let at = c.requires.captures in
    let capture = get_or c.as_slice-in-Some.result.now c.args.captures c.index-as_slice-captures.result in
    let held = there_at c.as_slice-in-Some.result.now loaded.captures c.args.captures c.index-as_slice-captures.result c.as_slice-in-Some.ensures (omega (arith, within, many, at)) in
    c.check_packets.ensures.stuck is told (are_packets told loaded c.args.report.now c.args.number c.args.cursor.now c.args.replay.now c.args.walkers.now c.args.least c.args.captures round c.in-Some.name capture it there c.in-Some.is at held)
