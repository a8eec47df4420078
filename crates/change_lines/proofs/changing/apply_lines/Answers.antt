use Rattle.std.proofs.Common.{rules, ◌≡◌, ◌∙◌, ◌+◌, ℕ, true, false, Bool, List, [], length, refl, sym, ap, subst, arith}
use Rattle.std.specs.Prelude.{if◌then◌else◌}
use Rattle.batch_run.proofs.CommandLines.{left_at}
use Rattle.change_lines.proofs.ChangeReach.{IsTold, changing_begun, changing_blank, is_short, changing_more, changing_ended}
use Rattle.change_lines.proofs.changing.apply_lines.Goals as goal

pub loop-text-init : goal.loop-text-init
loop-text-init c = record {
  told = changing_begun c.args.force c.args.texts.now c.args.replay.now c.new-lines.result.items c.requires.kept (search rules);
  numbered = refl;
  knows = c.requires.knows;
  of = (refl, refl);
}

pub loop-text-preserved-then-not-is_command : goal.loop-text-preserved-then-not-is_command
loop-text-preserved-then-not-is_command c =
    let l = c.loop-text in
    record {
      told = changing_blank c.args.force c.args.texts.now l.text-index c.args.replay.now l.replay l.lines.items l.invariant.told c.loop-text-test.true (sym c.is_command.ensures ∙ c.if-not-is_command.true);
      numbered = ap (λ (n : ℕ). n + 1) l.invariant.numbered;
      knows = l.invariant.knows;
      of = l.invariant.of;
    }

pub take_line-requires-clause-kept : goal.take_line-requires-clause-kept
take_line-requires-clause-kept c = c.loop-text.invariant.told.reached.kept

pub take_line-requires-clause-short : goal.take_line-requires-clause-short
take_line-requires-clause-short c =
    let l = c.loop-text in
    (is_short c.args.force c.args.texts.now l.text-index c.args.replay.now l.replay l.lines.items l.invariant.told c.requires.short c.requires.few c.loop-text-test.true
    (sym c.is_command.ensures ∙ c.if-not-is_command.false)).journal

pub take_line-requires-clause-few : goal.take_line-requires-clause-few
take_line-requires-clause-few c =
    let l = c.loop-text in
    (is_short c.args.force c.args.texts.now l.text-index c.args.replay.now l.replay l.lines.items l.invariant.told c.requires.short c.requires.few c.loop-text-test.true
    (sym c.is_command.ensures ∙ c.if-not-is_command.false)).refused

pub take_line-requires-clause-knows : goal.take_line-requires-clause-knows
take_line-requires-clause-knows c = c.loop-text.invariant.knows

pub returns-then-not-goes_on-clause-met : goal.returns-then-not-goes_on-clause-met
returns-then-not-goes_on-clause-met c =
    let l = c.loop-text in
    let stops : c.goes_on.result ≡ false = search rules in
    let told = subst (λ (b : Bool). IsTold c.args.force c.args.texts.now (if b then left_at c.args.texts.now (l.text-index + 1) else []) c.args.replay.now c.take_line.new.replay c.take_line.new.lines.items) stops
    (changing_more c.args.force c.args.texts.now l.text-index c.args.replay.now l.replay l.lines.items l.invariant.told c.take_line.new.replay c.take_line.new.lines.items c.in_ok-event.event l.number c.goes_on.result
    c.loop-text-test.true (sym c.is_command.ensures ∙ c.if-not-is_command.false) l.invariant.numbered c.goes_on.ensures c.in_ok-event.ensures.met c.in_ok-event.ensures.told) in
    (told.events, told.reached, told.told)

pub loop-text-preserved : goal.loop-text-preserved
loop-text-preserved c =
    let l = c.loop-text in
    let goes : c.goes_on.result ≡ true = search rules in
    record {
      told = subst (λ (b : Bool). IsTold c.args.force c.args.texts.now (if b then left_at c.args.texts.now (l.text-index + 1) else []) c.args.replay.now c.take_line.new.replay c.take_line.new.lines.items) goes
          (changing_more c.args.force c.args.texts.now l.text-index c.args.replay.now l.replay l.lines.items l.invariant.told c.take_line.new.replay c.take_line.new.lines.items c.in_ok-event.event l.number c.goes_on.result
          c.loop-text-test.true (sym c.is_command.ensures ∙ c.if-not-is_command.false) l.invariant.numbered c.goes_on.ensures c.in_ok-event.ensures.met c.in_ok-event.ensures.told);
      numbered = ap (λ (n : ℕ). n + 1) l.invariant.numbered;
      knows = c.in_ok-event.ensures.knows;
      of = (c.in_ok-event.ensures.of.0 ∙ l.invariant.of.0, c.in_ok-event.ensures.of.1 ∙ l.invariant.of.1);
    }

pub returns-clause-met : goal.returns-clause-met
returns-clause-met c =
    let l = c.loop-text in
    let told = changing_ended c.args.force c.args.texts.now l.text-index c.args.replay.now l.replay l.lines.items l.invariant.told c.loop-text-test.false in
    (told.events, told.reached, told.told)
