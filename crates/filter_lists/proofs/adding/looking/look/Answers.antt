use Rattle.std.proofs.Common.{◌≡◌, Err, sym, rules}
use Rattle.hook_lists.specs.States.{state_of}
use Rattle.action_plan.specs.Plans.{made_of}
use Rattle.filter_state.specs.Steps.{filter_add, resolved_for}
use Rattle.filter_lists.specs.OfAdding.Looks.{resolved_by_plan}
use Rattle.filter_lists.proofs.OfAdding.Looks.{at_actions, told_refused, told_planned, at_limits, refused_limits, accepted, refused_actions}
use Rattle.filter_lists.proofs.adding.looking.look.Goals as goal

pub returns-in_err-resolve : goal.returns-in_err-resolve
returns-in_err-resolve c =
    let s = state_of c.args.kept.now in
    let line = c.args.line.now in
    let far = at_actions s line c.in_ok-pref.pref c.in_ok-check_hook.ensures c.in_ok-pref.ensures c.in_ok-check_place.ensures in
    let told = told_refused (made_of c.args.kept.now.actions) (resolved_for s line.actions) c.in_err-resolve.field-0.0 c.in_err-resolve.ensures in
    let refused : filter_add s line ≡ Err c.in_err-resolve.field-0.0 = refused_actions s line c.in_ok-pref.pref c.in_err-resolve.field-0.0 far told in
    search rules

pub returns-in_err-check_limits : goal.returns-in_err-check_limits
returns-in_err-check_limits c =
    let s = state_of c.args.kept.now in
    let line = c.args.line.now in
    let far = at_actions s line c.in_ok-pref.pref c.in_ok-check_hook.ensures c.in_ok-pref.ensures c.in_ok-check_place.ensures in
    let plan = c.resolve.new.plan in
    let told = told_planned (made_of c.args.kept.now.actions) (resolved_for s line.actions) plan c.in_ok-resolve.ensures in
    let r = resolved_by_plan (made_of c.args.kept.now.actions) plan in
    let further = at_limits s line c.in_ok-pref.pref r far told.0 in
    let refused : filter_add s line ≡ Err c.in_err-check_limits.field-0.0 =
    refused_limits s line c.in_ok-pref.pref r c.in_err-check_limits.field-0.0 further (c.in_err-check_limits.ensures) in
    search rules

pub returns : goal.returns
returns c =
    let s = state_of c.args.kept.now in
    let line = c.args.line.now in
    let far = at_actions s line c.in_ok-pref.pref c.in_ok-check_hook.ensures c.in_ok-pref.ensures c.in_ok-check_place.ensures in
    let plan = c.resolve.new.plan in
    let told = told_planned (made_of c.args.kept.now.actions) (resolved_for s line.actions) plan c.in_ok-resolve.ensures in
    let r = resolved_by_plan (made_of c.args.kept.now.actions) plan in
    record {
      place = c.find_table-place.ensures;
      placed = sym (c.in_ok-check_place.ensures);
      fit = told.1;
      limits = sym (c.in_ok-check_limits.ensures);
      accepted = accepted s line c.in_ok-pref.pref r (at_limits s line c.in_ok-pref.pref r far told.0) (c.in_ok-check_limits.ensures);
    }
