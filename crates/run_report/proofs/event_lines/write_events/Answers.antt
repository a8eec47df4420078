use Rattle.std.proofs.Common.{◌∙◌, ℕ, ◌+◌, ◌++◌, List, take, refl, sym, ap, subst, arith}
use Rattle.std.specs.Prelude.{map}
use Rattle.std.specs.List.{enumerate_from}
use Rattle.walk_texts.specs.Texts.{joined}
use Rattle.run_report.specs.declared.events.Event.{Event}
use Rattle.run_report.specs.Counts.{accepted_count}
use Rattle.run_report.specs.EventTexts.{event_line}
use Rattle.run_report.specs.Pages.{IsPaged}
use Rattle.run_report.proofs.Lines.{line_more, all_numbered}
use Rattle.run_report.proofs.Counts.{accepted_more}
use Rattle.run_report.proofs.Pages.{page_then, page_line, page_up_to, part_up_to, part_front, lines_parted}
use Rattle.run_report.proofs.event_lines.write_events.Goals as goal

-- the line of an event at a place
abbrev line : ℕ → List Event → ℕ × Event → List ℕ
line before events placed = event_line (before + accepted_count (take placed.0 events)) placed.1

pub returns-in_err-turn-clause-up_to : goal.returns-in_err-turn-clause-up_to
returns-in_err-turn-clause-up_to g c =
    let events = c.args.events.now in
    part_up_to _ _ c.args.page.now.items _ _ _ (lines_parted (line c.args.before events) (enumerate_from 0 events) c.loop-event.event-index)
    (page_up_to _ _ _ _ _ c.loop-event.invariant.text c.turn.ensures.up_to)

pub returns-in_err-push_event_line-clause-up_to : goal.returns-in_err-push_event_line-clause-up_to
returns-in_err-push_event_line-clause-up_to g c =
    let events = c.args.events.now in
    part_front _ _ c.args.page.now.items _ _ _ (lines_parted (line c.args.before events) (enumerate_from 0 events) c.loop-event.event-index) _
    (page_then _ _ _ _ _ _ c.loop-event.invariant.text c.in_ok-turn.ensures.text)

pub loop-event-preserved : goal.loop-event-preserved
loop-event-preserved g c =
    let events = c.args.events.now in
    let k = c.loop-event.event-index in
    let event = c.event-item.result in
    let before = c.args.page.now.items ++ joined (map (line c.args.before events) (take k (enumerate_from 0 events))) in
    let put = c.in_ok-push_event_line.ensures ∙ ap (λ (n : ℕ). c.turn.new.page.items ++ event_line n event) c.loop-event.invariant.edits in
    record {
      text = page_line _ _ _ before _ _ _ (line c.args.before events (k, event)) _ c.loop-event.invariant.text c.in_ok-turn.ensures.text put
          (line_more (line c.args.before events) 0 c.args.page.now.items before _ events k k event c.loop-event-test.true (omega arith) (sym c.event-item.is) refl refl);
      edits = accepted_more events k _ _ _ _ (sym c.event-item.is) c.loop-event-test.true c.loop-event.invariant.edits c.accepted-edits.ensures;
      later = omega (arith, c.turn.ensures.counts.later, c.loop-event.invariant.later);
    }

pub returns-clause-text : goal.returns-clause-text
returns-clause-text g c =
    let events = c.args.events.now in
    subst (λ (es : List (ℕ × Event)). IsPaged (g.O.Sink.written c.args.out.now) (g.O.Sink.written c.loop-event.out)
    (c.args.page.now.items ++ joined (map (line c.args.before events) es)) c.loop-event.page.items)
    (all_numbered 0 events c.loop-event.event-index c.loop-event-test.false) c.loop-event.invariant.text

pub returns-clause-up_to : goal.returns-clause-up_to
returns-clause-up_to g c =
    let events = c.args.events.now in
    part_front _ _ c.args.page.now.items _ _ _ (lines_parted (line c.args.before events) (enumerate_from 0 events) c.loop-event.event-index) _ c.loop-event.invariant.text
