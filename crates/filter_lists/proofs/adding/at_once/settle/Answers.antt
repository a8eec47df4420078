use Rattle.std.proofs.Common.{arith, rules}
use Rattle.filter_lists.proofs.OfAdding.Put.{table_bound, mask_bound}
use Rattle.filter_lists.specs.OfAdding.Additions.{addition_of}
use Rattle.filter_lists.proofs.OfAdding.Done.{AreDone, is_done}
use Rattle.filter_lists.proofs.adding.at_once.settle.Goals as goal

pub count-requires-clause-table : goal.count-requires-clause-table
count-requires-clause-table c =
    omega (arith, table_bound c.args.kept.now c.args.arrival c.args.seat c.requires.kept c.requires.ready.seat, c.carry_plan.ensures.tables.tables_made)

pub count-requires-clause-mask : goal.count-requires-clause-mask
count-requires-clause-mask c =
    omega (arith, mask_bound c.args.kept.now c.args.arrival c.args.seat c.requires.kept c.requires.ready.seat, c.carry_plan.ensures.tables.masks_made)

pub returns : goal.returns
returns c =
    let done : AreDone c.args.kept.now c.put.new.kept (addition_of c.args.arrival c.args.seat c.args.plan.now c.args.serials) = record {
      hooked = search rules;
      both = search rules;
      actions = search rules;
      tables_made = search rules;
      masks_made = search rules;
      filters = search rules;
    } in
    is_done c.args.kept.now c.put.new.kept (addition_of c.args.arrival c.args.seat c.args.plan.now c.args.serials) c.requires.kept c.requires.ready done
