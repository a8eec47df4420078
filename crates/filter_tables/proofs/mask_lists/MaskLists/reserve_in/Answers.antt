use Rattle.std.proofs.Common.{◌-◌, ◌<◌, length, vec_capacity, arith}
use Rattle.filter_tables.specs.SeenRoom.{filter_room}
use Rattle.filter_tables.proofs.Spares.{min_spare}
use Rattle.filter_tables.proofs.mask_lists.MaskLists.reserve_in.Goals as goal

pub returns-clause-room : goal.returns-clause-room
returns-clause-room c =
    let some : 0 < vec_capacity c.reserve.new.self - length c.reserve.new.self.items = omega (arith, c.in_ok-reserve.ensures.ok, c.reserve.new.self.ok.0) in
    min_spare filter_room (vec_capacity c.reserve.new.self - length c.reserve.new.self.items) c.reserve_at.new.lists.items c.args.mask some c.in_ok-reserve_at.ensures.room
