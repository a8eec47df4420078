use Rattle.std.proofs.Common.{◌∙◌, ℕ, ◌+◌, sym, ap, Some, arith}
use Rattle.batch_run.specs.Commands.{commands_in}
use Rattle.batch_run.proofs.Limits.{room_after_blank, room_after_one, passed_at}
use Rattle.batch_run.proofs.limit.line_past_limit.Goals as goal

pub loop-text-preserved-then-not-is_command : goal.loop-text-preserved-then-not-is_command
loop-text-preserved-then-not-is_command c =
    let l = c.loop-text in
    record {
      has = room_after_blank l.room l.text-index c.args.texts.now (commands_in c.args.texts.now) c.loop-text-test.true (sym c.is_command.ensures ∙ c.if-not-is_command.true) l.invariant.has;
      numbered = omega arith;
    }

pub returns-then-room-eq0-clause-line : goal.returns-then-room-eq0-clause-line
returns-then-room-eq0-clause-line c =
    let l = c.loop-text in
    ap (λ (n : ℕ). Some (n + 1)) l.invariant.numbered
    ∙ passed_at l.room l.text-index c.args.texts.now (commands_in c.args.texts.now) c.loop-text-test.true (sym c.is_command.ensures ∙ c.if-not-is_command.false) c.if-room-eq0.true l.invariant.has

pub loop-text-preserved : goal.loop-text-preserved
loop-text-preserved c =
    let l = c.loop-text in
    record {
      has = room_after_one l.room l.text-index c.args.texts.now (commands_in c.args.texts.now) c.loop-text-test.true (sym c.is_command.ensures ∙ c.if-not-is_command.false) c.if-room-eq0.false l.invariant.has;
      numbered = omega arith;
    }
