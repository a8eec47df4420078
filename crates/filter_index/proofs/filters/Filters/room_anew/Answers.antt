use Rattle.std.proofs.Common.{arith}
use Rattle.filter_index.proofs.Slots.{there_le}
use Rattle.filter_index.proofs.filters.Filters.room_anew.Goals as goal

pub overflow_mul-len : goal.overflow_mul-len
overflow_mul-len c =
    let slots = c.self.inside.slots in
    omega (arith, slots.ok.0, slots.ok.1, slots.small, c.self.invariant.count, there_le slots.items, c.len.ensures)
