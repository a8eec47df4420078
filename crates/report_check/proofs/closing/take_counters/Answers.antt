use Rattle.std.proofs.Common.{rules, ◌≡◌, ◌∙◌, ◌+◌, ◌++◌, true, false, List, ℕ, drop, get_or, refl, subst}
use Rattle.act_kinds.specs.declared.params.Kind.TheVariants.{Gact}
use Rattle.batch_run.specs.declared.made_action.MadeAction.{MadeAction}
use Rattle.round_terms.proofs.JobFiles.{there_at}
use Rattle.report_laws.specs.Stands.{closing}
use Rattle.report_check.specs.OfEvents.Cursors.{IsAt}
use Rattle.report_check.specs.Counting.{counted_lines}
use Rattle.report_check.proofs.LastLines.{counters_next, counter_text, counter_due}
use Rattle.report_check.proofs.closing.take_counters.Goals as goal

pub returns-then-not-take_left-clause-stuck : goal.returns-then-not-take_left-clause-stuck
returns-then-not-take_left-clause-stuck c = λ is loaded run journal left two at.
    let l = c.loop-action in
    let made = c.args.made.now in
    let counts = c.args.counts.now in
    let d : MadeAction = record { serial = 0; kind = Gact; index = 0 } in
    let action : MadeAction = get_or made l.action-index d in
    let text = counter_text c.clear.new.self.items c.as_slice.result.now action c.of.result counts (c.as_slice.ensures.value ∙ c.in_ok-push_counter.ensures) c.clear.ensures.items c.of.ensures in
    let lines = counters_next counts made l.action-index action c.as_slice.result.now (there_at made made l.action-index d refl c.loop-action-test.true) text in
    let no : c.take_left.result ≡ false = search rules in
    c.take_left.ensures.stuck no loaded run journal (counted_lines counts (drop (l.action-index + 1) made) ++ left) (counter_due c.as_slice.result.now (counted_lines counts (drop (l.action-index + 1) made)) left two)
    (subst (λ (ls : List (List ℕ)). IsAt loaded c.args.report.now l.cursor (closing run journal (ls ++ left))) lines (l.invariant.going loaded run journal left at))

pub loop-action-preserved : goal.loop-action-preserved
loop-action-preserved c = record {
  within = c.take_left.ensures.within;
  going = λ loaded run journal left at.
      let l = c.loop-action in
      let made = c.args.made.now in
      let counts = c.args.counts.now in
      let d : MadeAction = record { serial = 0; kind = Gact; index = 0 } in
      let action : MadeAction = get_or made l.action-index d in
      let text = counter_text c.clear.new.self.items c.as_slice.result.now action c.of.result counts (c.as_slice.ensures.value ∙ c.in_ok-push_counter.ensures) c.clear.ensures.items c.of.ensures in
      let lines = counters_next counts made l.action-index action c.as_slice.result.now (there_at made made l.action-index d refl c.loop-action-test.true) text in
      let yes : c.take_left.result ≡ true = search rules in
      c.take_left.ensures.taken yes loaded run journal (counted_lines counts (drop (l.action-index + 1) made) ++ left)
      (subst (λ (ls : List (List ℕ)). IsAt loaded c.args.report.now l.cursor (closing run journal (ls ++ left))) lines (l.invariant.going loaded run journal left at));
}
