use Rattle.std.proofs.Common.{arith, rules}
use Rattle.filter_lists.proofs.OfAdding.Put.{table_bound, mask_bound}
use Rattle.filter_lists.proofs.OfAdding.Done.{AreDone, is_done}
use Rattle.filter_lists.proofs.adding.doing.add.Goals as goal

pub count-requires-clause-table : goal.count-requires-clause-table
count-requires-clause-table c =
    omega (arith, table_bound c.args.kept.now c.args.addition.arrival c.args.addition.seat c.requires.kept c.requires.ready.seat, c.carry_out.ensures.tables.tables_made)

pub count-requires-clause-mask : goal.count-requires-clause-mask
count-requires-clause-mask c =
    omega (arith, mask_bound c.args.kept.now c.args.addition.arrival c.args.addition.seat c.requires.kept c.requires.ready.seat, c.carry_out.ensures.tables.masks_made)

pub returns : goal.returns
returns c =
    let done : AreDone c.args.kept.now c.put.new.kept c.args.addition = record {
      hooked = search rules;
      both = search rules;
      actions = search rules;
      tables_made = search rules;
      masks_made = search rules;
      filters = search rules;
    } in
    is_done c.args.kept.now c.put.new.kept c.args.addition c.requires.kept c.requires.ready done
