use Rattle.std.proofs.Common.{◌∙◌, refl}
use Rattle.shared_hook.proofs.OfDeskEdits.Parted.{one, small_one, stands_one, gone_one, leaving, room_slot, room_rows, room_blocks, are2, blocks_leave, one_left, one_sized, one_parted}
use Rattle.shared_hook.proofs.desk_edits.leaving.part_with.Goals as goal

pub forget_mask-requires-clause-slot : goal.forget_mask-requires-clause-slot
forget_mask-requires-clause-slot c = small_one c.args.masks.now c.args.pools.now c.args.slot c.requires.may

pub forget_mask-requires-clause-stands : goal.forget_mask-requires-clause-stands
forget_mask-requires-clause-stands c = let m = c.requires.may in ((one c.args.masks.now c.args.pools.now c.args.slot m).kept, stands_one c.args.masks.now c.args.pools.now c.args.slot m)

pub leave_mask-requires : goal.leave_mask-requires
leave_mask-requires c = let m = c.requires.may in let masks = c.args.masks.now in let pools = c.args.pools.now in let slot = c.args.slot in let now = c.forget_mask.new.masks in let told = c.forget_mask.ensures in
    let it = one masks pools slot m in let own = told.rows it.kept (stands_one masks pools slot m) in
    let leaves = leaving masks pools slot m now.left_rows now.left_blocks told.left own (now.left_rows) (now.left_blocks) refl refl in
    record { room = room_slot masks pools slot m now.left_rows now.left_blocks leaves c.requires.sized }

pub leave_rows-requires : goal.leave_rows-requires
leave_rows-requires c = let m = c.requires.may in let masks = c.args.masks.now in let pools = c.args.pools.now in let slot = c.args.slot in let now = c.forget_mask.new.masks in let told = c.forget_mask.ensures in
    let it = one masks pools slot m in let own = told.rows it.kept (stands_one masks pools slot m) in
    let p1 = c.leave_mask.new.self in let l1 = c.leave_mask.ensures in let leaves = leaving masks pools slot m now.left_rows now.left_blocks told.left own (c.left_rows.result.now) (now.left_blocks) c.left_rows.ensures refl in
    record { room = room_rows masks pools slot m c.left_rows.result.now now.left_blocks leaves p1 l1.others l1.free l1.left l1.size (l1.pools m.h m.b) c.requires.sized }

pub leave_blocks-requires : goal.leave_blocks-requires
leave_blocks-requires c = let m = c.requires.may in let masks = c.args.masks.now in let pools = c.args.pools.now in let slot = c.args.slot in let now = c.forget_mask.new.masks in let told = c.forget_mask.ensures in
    let it = one masks pools slot m in let own = told.rows it.kept (stands_one masks pools slot m) in
    let p1 = c.leave_mask.new.self in let l1 = c.leave_mask.ensures in let p2 = c.leave_rows.new.self in let l2 = c.leave_rows.ensures in let leaves = leaving masks pools slot m now.left_rows now.left_blocks told.left own (c.left_rows.result.now) (c.left_blocks.result.now) c.left_rows.ensures c.left_blocks.ensures in
    record { room = room_blocks masks pools slot m c.left_rows.result.now c.left_blocks.result.now leaves p1 l1.others l1.free l1.left l1.size (l1.pools m.h m.b) p2 l2.others l2.free l2.left l2.size (l2.pools m.h m.b) c.requires.sized }

pub returns-clause-parting : goal.returns-clause-parting
returns-clause-parting c = λ m. let masks = c.args.masks.now in let pools = c.args.pools.now in let slot = c.args.slot in let now = c.forget_mask.new.masks in let told = c.forget_mask.ensures in
    let it = one masks pools slot m in let own = told.rows it.kept (stands_one masks pools slot m) in
    let p1 = c.leave_mask.new.self in let l1 = c.leave_mask.ensures in let p2 = c.leave_rows.new.self in let l2 = c.leave_rows.ensures in let p3 = c.leave_blocks.new.self in let l3 = c.leave_blocks.ensures in
    let leaves = leaving masks pools slot m now.left_rows now.left_blocks told.left own (c.left_rows.result.now) (c.left_blocks.result.now) c.left_rows.ensures c.left_blocks.ensures in
    one_parted masks pools slot m c.left_rows.result.now c.left_blocks.result.now leaves p1 l1.others l1.free l1.left l1.size (l1.pools m.h m.b) p2 l2.others l2.free l2.left l2.size (l2.pools m.h m.b)
    p3 l3.others l3.free l3.left l3.size (l3.pools m.h m.b (are2 masks pools slot m c.left_rows.result.now c.left_blocks.result.now leaves p1 l1.others l1.free l1.left l1.size (l1.pools m.h m.b) p2 l2.others l2.free l2.left l2.size (l2.pools m.h m.b)) (blocks_leave masks pools slot m c.left_rows.result.now c.left_blocks.result.now leaves p1 l1.others l1.free l1.left l1.size (l1.pools m.h m.b) p2 l2.others l2.free l2.left l2.size (l2.pools m.h m.b))) (c.left_rows.ensures ∙ own) (c.left_blocks.ensures ∙ told.blocks it.kept m.shape m.cells m.h (stands_one masks pools slot m) m.parting.holds)
    now told.gone (told.holds m.shape m.cells m.h m.parting.holds (gone_one masks pools slot m)) (told.others m.h)

pub returns-clause-left : goal.returns-clause-left
returns-clause-left c = λ m. let masks = c.args.masks.now in let pools = c.args.pools.now in let slot = c.args.slot in let now = c.forget_mask.new.masks in let told = c.forget_mask.ensures in
    let it = one masks pools slot m in let own = told.rows it.kept (stands_one masks pools slot m) in
    let p1 = c.leave_mask.new.self in let l1 = c.leave_mask.ensures in let p2 = c.leave_rows.new.self in let l2 = c.leave_rows.ensures in let p3 = c.leave_blocks.new.self in let l3 = c.leave_blocks.ensures in
    let leaves = leaving masks pools slot m now.left_rows now.left_blocks told.left own (c.left_rows.result.now) (c.left_blocks.result.now) c.left_rows.ensures c.left_blocks.ensures in
    one_left masks pools slot m c.left_rows.result.now c.left_blocks.result.now leaves p1 l1.others l1.free l1.left l1.size (l1.pools m.h m.b) p2 l2.others l2.free l2.left l2.size (l2.pools m.h m.b)
    p3 l3.others l3.free l3.left l3.size (l3.pools m.h m.b (are2 masks pools slot m c.left_rows.result.now c.left_blocks.result.now leaves p1 l1.others l1.free l1.left l1.size (l1.pools m.h m.b) p2 l2.others l2.free l2.left l2.size (l2.pools m.h m.b)) (blocks_leave masks pools slot m c.left_rows.result.now c.left_blocks.result.now leaves p1 l1.others l1.free l1.left l1.size (l1.pools m.h m.b) p2 l2.others l2.free l2.left l2.size (l2.pools m.h m.b))) (c.left_rows.ensures ∙ own) (c.left_blocks.ensures ∙ told.blocks it.kept m.shape m.cells m.h (stands_one masks pools slot m) m.parting.holds)

pub returns-clause-sized : goal.returns-clause-sized
returns-clause-sized c = let m = c.requires.may in let masks = c.args.masks.now in let pools = c.args.pools.now in let slot = c.args.slot in let now = c.forget_mask.new.masks in let told = c.forget_mask.ensures in
    let it = one masks pools slot m in let own = told.rows it.kept (stands_one masks pools slot m) in
    let p1 = c.leave_mask.new.self in let l1 = c.leave_mask.ensures in let p2 = c.leave_rows.new.self in let l2 = c.leave_rows.ensures in let p3 = c.leave_blocks.new.self in let l3 = c.leave_blocks.ensures in
    let leaves = leaving masks pools slot m now.left_rows now.left_blocks told.left own (c.left_rows.result.now) (c.left_blocks.result.now) c.left_rows.ensures c.left_blocks.ensures in
    one_sized masks pools slot m c.left_rows.result.now c.left_blocks.result.now leaves p1 l1.others l1.free l1.left l1.size (l1.pools m.h m.b) p2 l2.others l2.free l2.left l2.size (l2.pools m.h m.b)
    p3 l3.others l3.free l3.left l3.size (l3.pools m.h m.b (are2 masks pools slot m c.left_rows.result.now c.left_blocks.result.now leaves p1 l1.others l1.free l1.left l1.size (l1.pools m.h m.b) p2 l2.others l2.free l2.left l2.size (l2.pools m.h m.b)) (blocks_leave masks pools slot m c.left_rows.result.now c.left_blocks.result.now leaves p1 l1.others l1.free l1.left l1.size (l1.pools m.h m.b) p2 l2.others l2.free l2.left l2.size (l2.pools m.h m.b))) (c.left_rows.ensures ∙ own) (c.left_blocks.ensures ∙ told.blocks it.kept m.shape m.cells m.h (stands_one masks pools slot m) m.parting.holds) c.requires.sized
