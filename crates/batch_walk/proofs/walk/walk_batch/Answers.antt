use Rattle.std.proofs.Common.{ℕ, ◌∙◌, ap}
use Rattle.std.specs.Prelude.{is_some}
use Rattle.batch_run.specs.Commands.{commands_in}
use Rattle.batch_run.proofs.Serials.{all_in_range}
use Rattle.capture_walk.specs.Captures.{outcomes_of, executed_in}
use Rattle.tc_report.specs.OfShownBatches.Shown.{stop_shown}
use Rattle.batch_walk.proofs.Parts.{have_counts, closing_told, whole_text, is_walked}
use Rattle.batch_walk.proofs.walk.walk_batch.Goals as goal

pub text_of-requires : goal.text_of-requires
text_of-requires c =
    let run = c.in_ok-run.ensures in
    let ran = run.0 in
    have_counts ran.state.actions_made (executed_in (outcomes_of ran.state c.args.hook c.args.capture.now.packets)) c.deref.result.now ran.made c.in_ok-run.run'.made.items
    (c.deref.ensures.value ∙ c.in_ok-ends.ensures.counts ran.state run.1) run.3 (all_in_range 0 (commands_in c.args.texts.now) ran run.5)

pub returns : goal.returns
returns c =
    let run = c.in_ok-run.ensures in
    let ran = run.0 in
    let text = c.in_ok-text.ensures in
    let outcomes = outcomes_of ran.state c.args.hook c.args.capture.now.packets in
    let ends = c.in_ok-ends.ensures.ends ran.state run.1 in
    let closing = closing_told ran outcomes c.in_ok-text.text.closing.items c.in_ok-run.run'.accepted c.in_ok-run.run'.made.items c.in_ok-run.run'.stop c.in_ok-ends.field-0.ends c.deref.result.now
    run.2 run.3 run.4 ends (c.deref.ensures.value ∙ c.in_ok-ends.ensures.counts ran.state run.1) text.closing in (
      ran,
      run.5,
      is_walked ran c.args.hook c.args.capture.now _ (c.in_ok-ends.ensures.output ran.state run.1)
          (text.stop ∙ ap (λ (a : ℕ). stop_shown a c.in_ok-run.run'.stop) run.2 ∙ ap (stop_shown ran.accepted) run.4) (text.ends ∙ ends)
          (whole_text ran outcomes c.in_ok-text.text c.in_ok-run.run'.accepted c.in_ok-run.run'.stop c.in_ok-ends.field-0.ends run.2 run.4 ends text.stop text.ends closing)
          closing (c.is_some.ensures ∙ ap is_some run.4),
    )
