use Rattle.std.proofs.Common.{sym, subst}
use Rattle.filter_tables.specs.Rows.{tables_on}
use Rattle.hook_lists.specs.States.{both_of}
use Rattle.filter_lists.specs.OfReplacing.Changing.{WereThere}
use Rattle.filter_lists.specs.OfReplacing.Replacements.{replacement_of}
use Rattle.filter_lists.proofs.OfReplacing.Exchanged.{Changes, old_bound, replaced}
use Rattle.filter_lists.proofs.replacing.at_once.settle.Goals as goal

pub unbind-requires : goal.unbind-requires
unbind-requires c =
    let ready = c.requires.ready in
    let changes : Changes c.args.kept.now c.carry_plan.new.kept c.change_filter-gone.new.kept (replacement_of c.args.old.now c.args.change c.args.plan.now c.args.serials) c.as_slice.result.now =
    record {
      same = c.carry_plan.ensures.tables;
      carried_out = c.carry_plan.ensures.actions;
      there = subst (WereThere (tables_on c.args.old.now.hook (both_of c.carry_plan.new.kept)) c.args.old.now) (sym c.as_slice.ensures) c.change_filter-gone.ensures.gone;
      has = c.change_filter-gone.ensures.tables;
    } in
    old_bound c.args.kept.now c.carry_plan.new.kept c.change_filter-gone.new.kept (replacement_of c.args.old.now c.args.change c.args.plan.now c.args.serials) c.as_slice.result.now ready.0 ready.1 ready.2 c.requires.kept ready.3 changes

pub returns : goal.returns
returns c = λ table mask filter ready.
    let changes : Changes c.args.kept.now c.carry_plan.new.kept c.change_filter-gone.new.kept (replacement_of c.args.old.now c.args.change c.args.plan.now c.args.serials) c.as_slice.result.now =
    record {
      same = c.carry_plan.ensures.tables;
      carried_out = c.carry_plan.ensures.actions;
      there = subst (WereThere (tables_on c.args.old.now.hook (both_of c.carry_plan.new.kept)) c.args.old.now) (sym c.as_slice.ensures) c.change_filter-gone.ensures.gone;
      has = c.change_filter-gone.ensures.tables;
    } in
    replaced c.args.kept.now c.carry_plan.new.kept c.change_filter-gone.new.kept c.unbind.new.kept (replacement_of c.args.old.now c.args.change c.args.plan.now c.args.serials) c.as_slice.result.now table mask filter c.requires.kept ready changes
    c.unbind.ensures.tables c.unbind.ensures.actions c.unbind.ensures.made
