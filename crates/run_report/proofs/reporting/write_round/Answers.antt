use Rattle.std.proofs.Common.{ℕ, List, ◌++◌, codes, subst}
use Rattle.tc_base.specs.Outside.{AppendsUpTo}
use Rattle.tc_base.proofs.Appends.{AppendsUpTo-more}
use Rattle.walk_texts.specs.Texts.{joined}
use Rattle.run_report.specs.EventTexts.{event_lines}
use Rattle.run_report.specs.PacketTexts.{packet_lines}
use Rattle.run_report.specs.Reports.{numbered_line}
use Rattle.run_report.specs.Pages.{IsPaged}
use Rattle.run_report.proofs.Pages.{page_put, page_on, page_up_to, page_front, round_in_steps, step_up_to}
use Rattle.run_report.proofs.reporting.write_round.Goals as goal

pub returns-in_err-edits-clause-up_to : goal.returns-in_err-edits-clause-up_to
returns-in_err-edits-clause-up_to g c =
    let round = c.args.round.now in
    step_up_to _ _ _ (joined (packet_lines round.outcomes)) (numbered_line (codes "end round ") c.args.number) _
    (round_in_steps c.args.page.now.items (numbered_line (codes "round ") c.args.number) (event_lines c.args.before round.events) (packet_lines round.outcomes)
    (numbered_line (codes "end round ") c.args.number))
    (rw (c.in_ok-push_numbered_line.ensures, c.as_slice.ensures) at c.write_events.ensures.up_to)

pub returns-in_err-write_packets-clause-up_to : goal.returns-in_err-write_packets-clause-up_to
returns-in_err-write_packets-clause-up_to g c =
    let round = c.args.round.now in
    subst (AppendsUpTo (g.O.Sink.written c.args.out.now) (g.O.Sink.written c.write_packets.new.out))
    (round_in_steps c.args.page.now.items (numbered_line (codes "round ") c.args.number) (event_lines c.args.before round.events) (packet_lines round.outcomes)
    (numbered_line (codes "end round ") c.args.number))
    (AppendsUpTo-more _ _ _ (numbered_line (codes "end round ") c.args.number)
    (page_up_to _ _ _ _ _ (page_put _ _ _ _ _ (rw (c.in_ok-push_numbered_line.ensures, c.as_slice.ensures) at c.in_ok-edits.ensures.text)) c.write_packets.ensures.up_to))

pub returns-in_err-push_numbered_line-2-clause-up_to : goal.returns-in_err-push_numbered_line-2-clause-up_to
returns-in_err-push_numbered_line-2-clause-up_to g c =
    let round = c.args.round.now in
    subst (AppendsUpTo (g.O.Sink.written c.args.out.now) (g.O.Sink.written c.write_packets.new.out))
    (round_in_steps c.args.page.now.items (numbered_line (codes "round ") c.args.number) (event_lines c.args.before round.events) (packet_lines round.outcomes)
    (numbered_line (codes "end round ") c.args.number))
    (page_front _ _ _ _ (numbered_line (codes "end round ") c.args.number)
    (page_on _ _ _ _ _ _ _ (rw (c.in_ok-push_numbered_line.ensures, c.as_slice.ensures) at c.in_ok-edits.ensures.text) c.in_ok-write_packets.ensures.text))

pub returns-clause-text : goal.returns-clause-text
returns-clause-text g c =
    let round = c.args.round.now in
    rw (c.in_ok-push_numbered_line-2.ensures)
    (subst (λ (t : List ℕ). IsPaged (g.O.Sink.written c.args.out.now) (g.O.Sink.written c.write_packets.new.out) t
    (c.write_packets.new.page.items ++ numbered_line (codes "end round ") c.args.number))
    (round_in_steps c.args.page.now.items (numbered_line (codes "round ") c.args.number) (event_lines c.args.before round.events) (packet_lines round.outcomes)
    (numbered_line (codes "end round ") c.args.number))
    (page_put _ _ _ _ (numbered_line (codes "end round ") c.args.number)
    (page_on _ _ _ _ _ _ _ (rw (c.in_ok-push_numbered_line.ensures, c.as_slice.ensures) at c.in_ok-edits.ensures.text) c.in_ok-write_packets.ensures.text)))

pub returns-clause-up_to : goal.returns-clause-up_to
returns-clause-up_to g c =
    let round = c.args.round.now in
    subst (AppendsUpTo (g.O.Sink.written c.args.out.now) (g.O.Sink.written c.write_packets.new.out))
    (round_in_steps c.args.page.now.items (numbered_line (codes "round ") c.args.number) (event_lines c.args.before round.events) (packet_lines round.outcomes)
    (numbered_line (codes "end round ") c.args.number))
    (page_front _ _ _ _ (numbered_line (codes "end round ") c.args.number)
    (page_on _ _ _ _ _ _ _ (rw (c.in_ok-push_numbered_line.ensures, c.as_slice.ensures) at c.in_ok-edits.ensures.text) c.in_ok-write_packets.ensures.text))
