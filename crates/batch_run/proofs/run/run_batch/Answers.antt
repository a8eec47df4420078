use Rattle.std.proofs.Common.{◌+◌, ◌∙◌, sym, ap, arith}
use Rattle.act_kinds.specs.declared.params.Params.{Params}
use Rattle.act_registry.specs.Kept.{Kept}
use Rattle.batch_run.specs.Commands.{commands_in}
use Rattle.batch_run.specs.Runs.{SoFar}
use Rattle.batch_run.proofs.LentLines.{after_blank, after_command, after_log, at_stop, at_end}
use Rattle.batch_run.proofs.run.run_batch.Goals as goal

pub loop-text-preserved-then-not-is_command : goal.loop-text-preserved-then-not-is_command
loop-text-preserved-then-not-is_command c =
    let l = c.loop-text in
    let lines = c.args.texts.now in
    record {
      reached = after_blank l.lists (record { accepted = l.accepted; made = l.made.items }) l.text-index lines (commands_in lines) c.loop-text-test.true (sym c.is_command.ensures ∙ c.if-not-is_command.true) l.invariant.reached;
      numbered = omega arith;
    }

pub loop-text-preserved : goal.loop-text-preserved
loop-text-preserved c =
    let l = c.loop-text in
    let lines = c.args.texts.now in
    let so_far : SoFar = record { accepted = l.accepted; made = l.made.items } in
    let reached = after_command l.lists c.apply.new.lists so_far l.text-index l.number lines (commands_in lines) c.in-Ok-None.field-0 c.loop-text-test.true
    (sym c.is_command.ensures ∙ c.if-not-is_command.false) l.invariant.numbered c.in-Ok-None.field-0-is l.invariant.reached c.in-Ok-None.ensures in
    record {
      reached = after_log l.lists c.apply.new.lists so_far (l.text-index + 1) lines (commands_in lines) c.made-before.result c.entries.result.now c.log_made.new.made.items
          (c.made-before.ensures ∙ ap (λ (r : Kept Params). r.made) c.actions.ensures.actions)
          (c.entries.ensures.entries ∙ ap (λ (r : Kept Params). r.entries) c.actions-in-loop-text.ensures.actions)
          c.in_ok-log_made.ensures reached;
      numbered = omega arith;
    }

pub returns-in-Ok-Some : goal.returns-in-Ok-Some
returns-in-Ok-Some c =
    let l = c.loop-text in
    let lines = c.args.texts.now in
    at_stop l.lists c.apply.new.lists (record { accepted = l.accepted; made = l.made.items }) l.text-index l.number lines (commands_in lines) c.in-Ok-Some.field-0 c.in-Ok-Some.stop c.loop-text-test.true
    (sym c.is_command.ensures ∙ c.if-not-is_command.false) l.invariant.numbered c.in-Ok-Some.field-0-is l.invariant.reached c.in-Ok-Some.ensures

pub returns : goal.returns
returns c =
    let l = c.loop-text in
    at_end l.lists (record { accepted = l.accepted; made = l.made.items }) l.text-index c.args.texts.now (commands_in c.args.texts.now) c.loop-text-test.false l.invariant.reached
