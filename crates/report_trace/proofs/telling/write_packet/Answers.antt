use Rattle.std.proofs.Common.{◌≡◌, ◌∙◌, ◌+◌, ◌++◌, ◌-◌, ◌<◌, ℕ, List, [], length, sym, ap, subst, arith}
use Rattle.std.specs.Prelude.{get_or, slice_get, Some}
use Rattle.std.proofs.lemmas.Option.{slice_get-get_or}
use Rattle.filter_state.specs.Journals.{state_at}
use Rattle.filter_lists.specs.Spells.{Spells}
use Rattle.run_report.specs.PacketTexts.{packet_line}
use Rattle.batch_trace.specs.Passed.{edits_of, names_of}
use Rattle.trace_lines.specs.Lines.{decided_in}
use Rattle.walk_trace.specs.Tallies.{count_at, times_in}
use Rattle.report_trace.specs.Traced.{met_at, steps_at}
use Rattle.report_trace.proofs.Heads.{packet_told}
use Rattle.report_check.specs.declared.walker.Walker.{Walker}
use Rattle.report_trace.proofs.Plain.{up_to_now}
use Rattle.report_trace.proofs.Turns.{turn_of, first_among, line_is, told_behind, told_up_to}
use Rattle.report_trace.proofs.Walkers.{spells_there}
use Rattle.report_trace.proofs.telling.write_packet.Goals as goal

pub returns-in_err-told-clause-up_to : goal.returns-in_err-told-clause-up_to
returns-in_err-told-clause-up_to g c = λ next is.
    let met = met_at c.args.known.now c.args.number c.args.hook c.args.bytes.now next.outcome.points in
    let own = packet_line c.args.number next.outcome in
    c.put_plain.ensures.up_to next.first next.whole own next.lines (met ++ (own ++ next.rest)) (packet_told c.args.number next.outcome) is.behind

pub cut_first-requires : goal.cut_first-requires
cut_first-requires g c =
    let next = c.requires.next.0 in
    let is = c.requires.next.1 in
    let turn = turn_of next c.args.known.now (g.O.Sink.written c.args.out.now) (g.O.Sink.written c.put_plain.new.out) c.args.left.now c.in_ok-told.told.now c.args.number c.args.hook c.args.bytes.now (length c.args.walkers.now.items) is c.in_ok-told.ensures.written in
    (packet_line c.args.number next.outcome, next.lines, turn.comes)

pub read_packet-requires : goal.read_packet-requires
read_packet-requires g c =
    let next = c.requires.next.0 in
    let is = c.requires.next.1 in
    let turn = turn_of next c.args.known.now (g.O.Sink.written c.args.out.now) (g.O.Sink.written c.put_plain.new.out) c.args.left.now c.in_ok-told.told.now c.args.number c.args.hook c.args.bytes.now (length c.args.walkers.now.items) is c.in_ok-told.ensures.written in
    let at = line_is next c.args.known.now (g.O.Sink.written c.put_plain.new.out) (g.O.Sink.written c.put_plain.new.out) c.in_ok-told.told.now c.cut_first.result.0.now c.cut_first.result.1.now [] c.args.number c.args.hook c.args.bytes.now turn c.cut_first.ensures in
    (c.args.number, next.outcome, is.fit.small, at)

pub returns-in_err-worker-clause-up_to : goal.returns-in_err-worker-clause-up_to
returns-in_err-worker-clause-up_to g c = λ next is.
    let turn = turn_of next c.args.known.now (g.O.Sink.written c.args.out.now) (g.O.Sink.written c.put_plain.new.out) c.args.left.now c.in_ok-told.told.now c.args.number c.args.hook c.args.bytes.now (length c.args.walkers.now.items) is c.in_ok-told.ensures.written in
    up_to_now _ _ _ _ turn.left

pub follow_worker-requires-clause-worker : goal.follow_worker-requires-clause-worker
follow_worker-requires-clause-worker g c =
    let next = c.requires.next.0 in
    let is = c.requires.next.1 in
    let turn = turn_of next c.args.known.now (g.O.Sink.written c.args.out.now) (g.O.Sink.written c.put_plain.new.out) c.args.left.now c.in_ok-told.told.now c.args.number c.args.hook c.args.bytes.now (length c.args.walkers.now.items) is c.in_ok-told.ensures.written in
    let at = line_is next c.args.known.now (g.O.Sink.written c.put_plain.new.out) (g.O.Sink.written c.put_plain.new.out) c.in_ok-told.told.now c.cut_first.result.0.now c.cut_first.result.1.now [] c.args.number c.args.hook c.args.bytes.now turn c.cut_first.ensures in
    let read = c.in_ok-worker.ensures c.args.number next.outcome is.fit.small at in
    let same = read.0 in
    let least = is.fit.least in
    let most = is.fit.most in
    (omega (arith, same, least), omega (arith, same, most))

pub follow_worker-requires-clause-point : goal.follow_worker-requires-clause-point
follow_worker-requires-clause-point g c =
    let next = c.requires.next.0 in
    let is = c.requires.next.1 in
    let turn = turn_of next c.args.known.now (g.O.Sink.written c.args.out.now) (g.O.Sink.written c.put_plain.new.out) c.args.left.now c.in_ok-told.told.now c.args.number c.args.hook c.args.bytes.now (length c.args.walkers.now.items) is c.in_ok-told.ensures.written in
    let at = line_is next c.args.known.now (g.O.Sink.written c.put_plain.new.out) (g.O.Sink.written c.put_plain.new.out) c.in_ok-told.told.now c.cut_first.result.0.now c.cut_first.result.1.now [] c.args.number c.args.hook c.args.bytes.now turn c.cut_first.ensures in
    let read = c.in_ok-worker.ensures c.args.number next.outcome is.fit.small at in
    let first = first_among next.outcome.points (length c.args.known.now) is.fit.points in
    let same = c.first_of-point.ensures ∙ ap (λ (ps : List ℕ). get_or ps 0 0) (c.as_slice.ensures.value ∙ read.1) in
    omega (arith, first, same)

pub returns-in_err-follow_worker-clause-up_to : goal.returns-in_err-follow_worker-clause-up_to
returns-in_err-follow_worker-clause-up_to g c = λ next is.
    let turn = turn_of next c.args.known.now (g.O.Sink.written c.args.out.now) (g.O.Sink.written c.put_plain.new.out) c.args.left.now c.in_ok-told.told.now c.args.number c.args.hook c.args.bytes.now (length c.args.walkers.now.items) is c.in_ok-told.ensures.written in
    up_to_now _ _ _ _ turn.left

pub returns-in_err-tell_packet-clause-up_to : goal.returns-in_err-tell_packet-clause-up_to
returns-in_err-tell_packet-clause-up_to g c = λ next is.
    let turn = turn_of next c.args.known.now (g.O.Sink.written c.args.out.now) (g.O.Sink.written c.put_plain.new.out) c.args.left.now c.in_ok-told.told.now c.args.number c.args.hook c.args.bytes.now (length c.args.walkers.now.items) is c.in_ok-told.ensures.written in
    up_to_now _ _ _ _ turn.left

pub returns-in_err-write_all-clause-up_to : goal.returns-in_err-write_all-clause-up_to
returns-in_err-write_all-clause-up_to g c = λ next is.
    let turn = turn_of next c.args.known.now (g.O.Sink.written c.args.out.now) (g.O.Sink.written c.put_plain.new.out) c.args.left.now c.in_ok-told.told.now c.args.number c.args.hook c.args.bytes.now (length c.args.walkers.now.items) is c.in_ok-told.ensures.written in
    let at = line_is next c.args.known.now (g.O.Sink.written c.put_plain.new.out) (g.O.Sink.written c.put_plain.new.out) c.in_ok-told.told.now c.cut_first.result.0.now c.cut_first.result.1.now [] c.args.number c.args.hook c.args.bytes.now turn c.cut_first.ensures in
    let read = c.in_ok-worker.ensures c.args.number next.outcome is.fit.small at in
    told_up_to next c.args.known.now (g.O.Sink.written c.put_plain.new.out) (g.O.Sink.written c.write_all.new.self) c.in_ok-told.told.now c.cut_first.result.0.now c.cut_first.result.1.now c.read_packet.new.points.items c.args.number c.args.hook c.args.bytes.now turn c.cut_first.ensures
    c.text.result.now (c.text.ensures ∙ c.in_ok-tell_packet.ensures.page) read.1 c.write_all.ensures.up_to

pub returns-clause-up_to : goal.returns-clause-up_to
returns-clause-up_to g c = λ next is.
    let turn = turn_of next c.args.known.now (g.O.Sink.written c.args.out.now) (g.O.Sink.written c.put_plain.new.out) c.args.left.now c.in_ok-told.told.now c.args.number c.args.hook c.args.bytes.now (length c.args.walkers.now.items) is c.in_ok-told.ensures.written in
    let at = line_is next c.args.known.now (g.O.Sink.written c.put_plain.new.out) (g.O.Sink.written c.put_plain.new.out) c.in_ok-told.told.now c.cut_first.result.0.now c.cut_first.result.1.now [] c.args.number c.args.hook c.args.bytes.now turn c.cut_first.ensures in
    let read = c.in_ok-worker.ensures c.args.number next.outcome is.fit.small at in
    told_up_to next c.args.known.now (g.O.Sink.written c.put_plain.new.out) (g.O.Sink.written c.write_all.new.self) c.in_ok-told.told.now c.cut_first.result.0.now c.cut_first.result.1.now c.read_packet.new.points.items c.args.number c.args.hook c.args.bytes.now turn c.cut_first.ensures
    c.text.result.now (c.text.ensures ∙ c.in_ok-tell_packet.ensures.page) read.1 c.write_all.ensures.up_to

pub returns-clause-behind : goal.returns-clause-behind
returns-clause-behind g c = λ next is.
    let turn = turn_of next c.args.known.now (g.O.Sink.written c.args.out.now) (g.O.Sink.written c.put_plain.new.out) c.args.left.now c.in_ok-told.told.now c.args.number c.args.hook c.args.bytes.now (length c.args.walkers.now.items) is c.in_ok-told.ensures.written in
    let at = line_is next c.args.known.now (g.O.Sink.written c.put_plain.new.out) (g.O.Sink.written c.put_plain.new.out) c.in_ok-told.told.now c.cut_first.result.0.now c.cut_first.result.1.now [] c.args.number c.args.hook c.args.bytes.now turn c.cut_first.ensures in
    let read = c.in_ok-worker.ensures c.args.number next.outcome is.fit.small at in
    told_behind next c.args.known.now (g.O.Sink.written c.put_plain.new.out) (g.O.Sink.written c.write_all.new.self) c.in_ok-told.told.now c.cut_first.result.0.now c.cut_first.result.1.now c.read_packet.new.points.items c.args.number c.args.hook c.args.bytes.now turn c.cut_first.ensures
    c.text.result.now (c.text.ensures ∙ c.in_ok-tell_packet.ensures.page) read.1 c.in_ok-write_all.ensures.all

pub returns-clause-tally : goal.returns-clause-tally
returns-clause-tally g c = λ next is edit.
    let turn = turn_of next c.args.known.now (g.O.Sink.written c.args.out.now) (g.O.Sink.written c.put_plain.new.out) c.args.left.now c.in_ok-told.told.now c.args.number c.args.hook c.args.bytes.now (length c.args.walkers.now.items) is c.in_ok-told.ensures.written in
    let at = line_is next c.args.known.now (g.O.Sink.written c.put_plain.new.out) (g.O.Sink.written c.put_plain.new.out) c.in_ok-told.told.now c.cut_first.result.0.now c.cut_first.result.1.now [] c.args.number c.args.hook c.args.bytes.now turn c.cut_first.ensures in
    let read = c.in_ok-worker.ensures c.args.number next.outcome is.fit.small at in
    c.in_ok-tell_packet.ensures.tally edit
    ∙ ap (λ (ps : List ℕ). count_at c.args.tally.now edit + times_in (decided_in (names_of c.args.known.now) (steps_at c.args.known.now c.args.hook c.args.bytes.now ps)) edit) read.1

pub overflow_sub-worker : goal.overflow_sub-worker
overflow_sub-worker g c =
    let next = c.requires.next.0 in
    let is = c.requires.next.1 in
    let turn = turn_of next c.args.known.now (g.O.Sink.written c.args.out.now) (g.O.Sink.written c.put_plain.new.out) c.args.left.now c.in_ok-told.told.now c.args.number c.args.hook c.args.bytes.now (length c.args.walkers.now.items) is c.in_ok-told.ensures.written in
    let at = line_is next c.args.known.now (g.O.Sink.written c.put_plain.new.out) (g.O.Sink.written c.put_plain.new.out) c.in_ok-told.told.now c.cut_first.result.0.now c.cut_first.result.1.now [] c.args.number c.args.hook c.args.bytes.now turn c.cut_first.ensures in
    let same = (c.in_ok-worker.ensures c.args.number next.outcome is.fit.small at).0 in
    let least = is.fit.least in
    omega (arith, same, least)

pub index-requires : goal.index-requires
index-requires g c =
    let next = c.requires.next.0 in
    let is = c.requires.next.1 in
    let turn = turn_of next c.args.known.now (g.O.Sink.written c.args.out.now) (g.O.Sink.written c.put_plain.new.out) c.args.left.now c.in_ok-told.told.now c.args.number c.args.hook c.args.bytes.now (length c.args.walkers.now.items) is c.in_ok-told.ensures.written in
    let at = line_is next c.args.known.now (g.O.Sink.written c.put_plain.new.out) (g.O.Sink.written c.put_plain.new.out) c.in_ok-told.told.now c.cut_first.result.0.now c.cut_first.result.1.now [] c.args.number c.args.hook c.args.bytes.now turn c.cut_first.ensures in
    let same = (c.in_ok-worker.ensures c.args.number next.outcome is.fit.small at).0 in
    let least = is.fit.least in
    let most = is.fit.most in
    let long = c.follow_worker.ensures.many in
    let less : c.in_ok-worker.worker - 1 < length c.follow_worker.new.walkers.items = omega (arith, same, least, most, long) in
    let own_length = c.follow_worker.new.walkers.ok.0 in
    omega (arith, less, own_length)

pub tell_packet-requires-clause-lists : goal.tell_packet-requires-clause-lists
tell_packet-requires-clause-lists g c =
    let next = c.requires.next.0 in
    let is = c.requires.next.1 in
    let turn = turn_of next c.args.known.now (g.O.Sink.written c.args.out.now) (g.O.Sink.written c.put_plain.new.out) c.args.left.now c.in_ok-told.told.now c.args.number c.args.hook c.args.bytes.now (length c.args.walkers.now.items) is c.in_ok-told.ensures.written in
    let at = line_is next c.args.known.now (g.O.Sink.written c.put_plain.new.out) (g.O.Sink.written c.put_plain.new.out) c.in_ok-told.told.now c.cut_first.result.0.now c.cut_first.result.1.now [] c.args.number c.args.hook c.args.bytes.now turn c.cut_first.ensures in
    let same = (c.in_ok-worker.ensures c.args.number next.outcome is.fit.small at).0 in
    let least = is.fit.least in
    let most = is.fit.most in
    let long = c.follow_worker.ensures.many in
    let walkers = c.follow_worker.new.walkers.items in
    let place = c.in_ok-worker.worker - 1 in
    let less : place < length walkers = omega (arith, same, least, most, long) in
    let there : slice_get walkers place ≡ Some c.index.result.now = slice_get-get_or walkers place c.index.result.now less ∙ ap (λ (w : Walker). Some w) (sym c.index.ensures) in
    let point : c.first_of-point.result ≡ get_or c.read_packet.new.points.items 0 0 = c.first_of-point.ensures ∙ ap (λ (ps : List ℕ). get_or ps 0 0) c.as_slice.ensures.value in
    subst (λ (n : ℕ). Spells c.index.result.now.lists (state_at n (edits_of c.args.known.now))) point
    (spells_there (edits_of c.args.known.now) walkers place c.first_of-point.result c.index.result.now c.in_ok-follow_worker.ensures.stand there c.in_ok-follow_worker.ensures.at)
