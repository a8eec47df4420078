use Rattle.std.proofs.Common.{arith}
use Rattle.std.proofs.lemmas.Option.{slice_get_within}
use Rattle.desk_heads.proofs.slots.search_slot.Goals as goal

pub unreachable-requires : goal.unreachable-requires
unreachable-requires c = let n = c.requires.1 in let end = c.loop-place-test.false in let inside = slice_get_within c.args.tables.now n.place n.table n.there in
    c.loop-place.invariant n.place n.table (omega (arith, inside, end)) n.there c.requires.0 (record { place = n.among; name = n.name; there = n.has; serial_is = n.serial_is; slot_is = n.slot_is })
