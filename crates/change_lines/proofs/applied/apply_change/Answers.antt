use Rattle.std.proofs.Common.{◌≡◌, ◌∙◌, refl, sym, ap, subst}
use Rattle.batch_run.specs.Commands.{commands_in}
use Rattle.change_lines.specs.declared.applied.AppliedChange.{AppliedChange}
use Rattle.change_lines.proofs.Ending.{it, is_changed, is_applied, opened_room}
use Rattle.change_lines.proofs.applied.apply_change.Goals as goal

pub apply_lines-requires-clause-kept : goal.apply_lines-requires-clause-kept
apply_lines-requires-clause-kept c = c.in_ok-opened.ensures.1.reached.kept

pub apply_lines-requires-clause-short : goal.apply_lines-requires-clause-short
apply_lines-requires-clause-short c =
    (opened_room (commands_in c.args.batch.now) (commands_in c.args.change.now) c.in_ok-opened.opened c.in_ok-opened.ensures.0 c.in_ok-opened.ensures.1 c.requires).0

pub apply_lines-requires-clause-few : goal.apply_lines-requires-clause-few
apply_lines-requires-clause-few c =
    (opened_room (commands_in c.args.batch.now) (commands_in c.args.change.now) c.in_ok-opened.opened c.in_ok-opened.ensures.0 c.in_ok-opened.ensures.1 c.requires).1

pub apply_lines-requires-clause-knows : goal.apply_lines-requires-clause-knows
apply_lines-requires-clause-knows c =
    let kept = c.in_ok-opened.ensures.1.reached.kept in
    c.in_ok-heads.ensures.knows _ (sym (c.point-before.ensures ∙ kept.remembers.point)) kept.spells

pub returns : goal.returns
returns c =
    let opened = c.in_ok-opened.ensures in
    let kept = opened.1.reached.kept in
    let met = c.in_ok-lines.ensures.met in
    let batch = commands_in c.args.batch.now in
    let change = commands_in c.args.change.now in
    let later : AppliedChange = record {
      replay = c.apply_lines.new.replay;
      hook = c.args.hook;
      heads = c.apply_lines.new.heads;
      before = c.point-before.result;
      stop = c.in_ok-opened.opened.stop;
      lines = c.in_ok-lines.lines;
    } in (
      it batch change c.args.force c.args.hook c.in_ok-opened.opened opened.0 opened.1 later met.0 met.1,
      is_changed batch change c.args.force c.args.hook c.in_ok-opened.opened opened.0 opened.1 later met.0 met.1,
      is_applied batch change c.args.force c.args.hook c.in_ok-opened.opened opened.0 opened.1 later met.0 met.1 c.requires (record {
        before = c.point-before.ensures ∙ kept.remembers.point;
        knows = c.in_ok-lines.ensures.knows;
        hook_is = refl;
        at_hook = c.in_ok-lines.ensures.of.0 ∙ c.in_ok-heads.ensures.of.0;
        since = c.in_ok-lines.ensures.of.1 ∙ c.in_ok-heads.ensures.of.1;
        stop = refl;
        lines = met.2;
      }),
    )
