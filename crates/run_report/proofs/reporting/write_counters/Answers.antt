use Rattle.std.proofs.Common.{ℕ, ◌++◌, List, take, subst, arith}
use Rattle.walk_texts.specs.Texts.{joined, counter_line}
use Rattle.tc_report.proofs.Lines.{take_whole}
use Rattle.run_report.specs.declared.counters.CounterLine.{CounterLine}
use Rattle.run_report.specs.Reports.{counter_lines}
use Rattle.run_report.specs.Pages.{IsPaged}
use Rattle.run_report.proofs.Pages.{page_then, page_line, page_up_to, part_up_to, part_front, lines_parted, mapped_more}
use Rattle.run_report.proofs.reporting.write_counters.Goals as goal

-- the line of a counter
abbrev line_of : CounterLine → List ℕ
line_of c = counter_line (record { serial = c.serial; kind = c.kind; index = c.index }) (record { packets = c.packets; bytes = c.bytes })

pub returns-in_err-turn-clause-up_to : goal.returns-in_err-turn-clause-up_to
returns-in_err-turn-clause-up_to g c =
    part_up_to _ _ c.args.page.now.items _ _ _ (lines_parted line_of c.args.counters.now c.loop-counter.counter-index)
    (page_up_to _ _ _ _ _ c.loop-counter.invariant.text c.turn.ensures.up_to)

pub returns-in_err-push_counter-clause-up_to : goal.returns-in_err-push_counter-clause-up_to
returns-in_err-push_counter-clause-up_to g c =
    part_front _ _ c.args.page.now.items _ _ _ (lines_parted line_of c.args.counters.now c.loop-counter.counter-index) _
    (page_then _ _ _ _ _ _ c.loop-counter.invariant.text c.in_ok-turn.ensures.text)

pub loop-counter-preserved : goal.loop-counter-preserved
loop-counter-preserved g c =
    let counters = c.args.counters.now in
    let k = c.loop-counter.counter-index in
    record {
      text = page_line _ _ _ (c.args.page.now.items ++ joined (counter_lines (take k counters))) _ _ _ _ _ c.loop-counter.invariant.text
          c.in_ok-turn.ensures.text c.in_ok-push_counter.ensures
          (mapped_more line_of c.args.page.now.items counters k _ c.loop-counter-test.true);
      later = omega (arith, c.turn.ensures.counts.later, c.loop-counter.invariant.later);
    }

pub returns-clause-text : goal.returns-clause-text
returns-clause-text g c =
    subst (λ (cs : List CounterLine). IsPaged (g.O.Sink.written c.args.out.now) (g.O.Sink.written c.loop-counter.out)
    (c.args.page.now.items ++ joined (counter_lines cs)) c.loop-counter.page.items)
    (take_whole c.args.counters.now c.loop-counter.counter-index c.loop-counter-test.false) c.loop-counter.invariant.text

pub returns-clause-up_to : goal.returns-clause-up_to
returns-clause-up_to g c =
    part_front _ _ c.args.page.now.items _ _ _ (lines_parted line_of c.args.counters.now c.loop-counter.counter-index) _ c.loop-counter.invariant.text
