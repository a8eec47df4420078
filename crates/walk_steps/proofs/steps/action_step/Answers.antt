use Rattle.std.proofs.Common.{◌≡◌, ◌<◌, ◌∙◌, length, false, sym, ap, arith}
use Rattle.act_list.specs.Run as runs
use Rattle.walk_rules.specs.Questions.{params_of, told_params}
use Rattle.walk_steps.proofs.Acts.{no_action, goes_on, has_ended, serial_at, action_asked, goes_in_list, goes_past_list}
use Rattle.walk_steps.proofs.Known.{masks_still, actions_still, none_known}
use Rattle.walk_steps.proofs.steps.action_step.Goals as goal

pub returns-in-At-clause-step : goal.returns-in-At-clause-step
returns-in-At-clause-step g c =
    let old = c.args.course.now in
    let run = c.args.run in
    let params = c.params-params.result.0 in
    let point = c.params-params.result.1 in
    let names = c.execute-control.ensures.names in
    let stop : (c.args.table < length old.heads.tables) × (run.length ≡ length old.hit) × (run.ended ≡ false) = rw c.requires.stage at c.requires.course.stop in
    let serial = serial_at old.hit _ run.at c.at.result no_action c.actions.ensures.same c.at.ensures.same (omega (arith, c.at.ensures.within)) in
    let control = ap (runs.after run) c.execute-control.ensures.control in
    record {
      question = params_of _;
      answer = told_params params;
      point = point;
      asks = action_asked old c.args.table run _ c.requires.stage stop.0 serial c.requires.left;
      answered = c.params-params.ensures.told;
      goes = goes_in_list old c.execute-control.new.course c.push.new.self point c.args.table _ run c.next.new.self params c.requires.stage stop.0 stop.1
          c.push.ensures serial c.execute-control.ensures.ran names.0 names.1
          (sym control ∙ goes_on run c.next.new.self c.in-At.field-0 _ (sym c.in-At.is ∙ c.next.ensures.told) c.next.ensures.moved);
      kept = names.3 ∙ c.push.ensures;
    }

pub returns-in-At-clause-known : goal.returns-in-At-clause-known
returns-in-At-clause-known g c =
    let old = c.args.course.now in
    let names = c.execute-control.ensures.names in
    let actions = rw c.requires.stage at c.requires.known.actions in
    record {
      masks = masks_still _ _ c.params-params.ensures.kept_masks old.heads.tables _ names.0 c.requires.known.masks;
      actions = actions_still _ _ c.params-params.ensures.kept_actions old.hit _ names.1 actions;
    }

pub returns-in-Ended-clause-step : goal.returns-in-Ended-clause-step
returns-in-Ended-clause-step g c =
    let old = c.args.course.now in
    let run = c.args.run in
    let params = c.params-params.result.0 in
    let point = c.params-params.result.1 in
    let names = c.execute-control.ensures.names in
    let stop : (c.args.table < length old.heads.tables) × (run.length ≡ length old.hit) × (run.ended ≡ false) = rw c.requires.stage at c.requires.course.stop in
    let serial = serial_at old.hit _ run.at c.at.result no_action c.actions.ensures.same c.at.ensures.same (omega (arith, c.at.ensures.within)) in
    let control = ap (runs.after run) c.execute-control.ensures.control in
    record {
      question = params_of _;
      answer = told_params params;
      point = point;
      asks = action_asked old c.args.table run _ c.requires.stage stop.0 serial c.requires.left;
      answered = c.params-params.ensures.told;
      goes = c.end_list.ensures.goes
          ∙ goes_past_list old c.execute-control.new.course c.push.new.self point c.args.table _ run params c.in-Ended.ending c.requires.stage stop.0 stop.1
          c.push.ensures serial c.execute-control.ensures.ran names.0
          (sym control ∙ has_ended c.in-Ended.ending _ (sym c.in-Ended.is ∙ c.next.ensures.told));
      kept = c.end_list.ensures.names.2 ∙ names.3 ∙ c.push.ensures;
    }

pub returns-in-Ended-clause-known : goal.returns-in-Ended-clause-known
returns-in-Ended-clause-known g c =
    let old = c.args.course.now in
    let names = c.execute-control.ensures.names in
    record {
      masks = masks_still _ _ c.params-params.ensures.kept_masks old.heads.tables _ (c.end_list.ensures.names.0 ∙ names.0) c.requires.known.masks;
      actions = none_known _ _ c.end_list.ensures.unhit;
    }
