use Rattle.std.proofs.Common.{subst}
use Rattle.filter_tables.specs.Seen.{plain_table}
use Rattle.filter_tables.specs.Rows.{tables_on}
use Rattle.hook_lists.specs.States.{both_of}
use Rattle.filter_lists.specs.OfAdding.Seats.{IsThere}
use Rattle.filter_lists.proofs.adding.numbers.mask_serial.Goals as goal

pub mask_at-requires : goal.mask_at-requires
mask_at-requires c =
    (subst (IsThere (tables_on c.args.hook (both_of c.args.kept.now))) c.in-InMask.is c.requires.there).1 (plain_table c.table_at.result.now) c.table_at.ensures
