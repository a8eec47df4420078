use Rattle.filter_tables.specs.SeenMask.{plain_mask}
use Rattle.filter_tables.specs.SeenRoom.{filter_room}
use Rattle.filter_tables.proofs.Places.{map_kept}
use Rattle.filter_tables.proofs.Spares.{spare_set}
use Rattle.filter_tables.proofs.mask_edits.reserve_at.Goals as goal

pub returns-clause-masks : goal.returns-clause-masks
returns-clause-masks c =
    map_kept plain_mask c.args.lists.now.items c.args.at c.index_mut.result.now c.reserve.new.self c.index_mut.ensures.value c.reserve.ensures.mask

pub returns-clause-room : goal.returns-clause-room
returns-clause-room c = rw (spare_set filter_room c.args.lists.now.items c.args.at c.reserve.new.self c.requires) c.reserve.ensures.room
