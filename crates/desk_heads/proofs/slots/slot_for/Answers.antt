use Rattle.desk_heads.proofs.Told.{old_there}
use Rattle.desk_heads.proofs.slots.slot_for.Goals as goal

pub slot_near-requires-clause-there : goal.slot_near-requires-clause-there
slot_near-requires-clause-there c = old_there c.args.old.now c.args.built.now c.args.serial c.requires.known c.in-None.ensures.missing
