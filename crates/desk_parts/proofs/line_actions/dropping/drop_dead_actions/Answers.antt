use Rattle.std.proofs.Common.{inl, inr, ◌+◌, ◌<◌, length, get_or, refl, sym, ap, subst, arith}
use Rattle.std.proofs.lemmas.Option.{slice_get-get_or}
use Rattle.desk_pools.specs.OfNumbers.Numbers.{PoolNumbers}
use Rattle.desk_pools.specs.declared.pools.Pools.{Pools}
use Rattle.desk_actions.specs.Places.{Placed}
use Rattle.desk_parts.proofs.OfLineActions.Going.{DropLoop}
use Rattle.desk_parts.proofs.OfLineActions.Leaving.{drop_start, drop_end, room_slot, room_block, loop_kept, loop_dropped}
use Rattle.desk_parts.proofs.line_actions.dropping.drop_dead_actions.Goals as goal
use Rattle.desk_parts.proofs.line_actions.dropping.drop_dead_actions.Goals.{then-block-lt-POOL_BLOCKS+then-is_dead, else-block-lt-POOL_BLOCKS, else-block-lt-POOL_BLOCKS-via-then-block-lt-POOL_BLOCKS+else-is_dead, else-block-lt-POOL_BLOCKS-via-else-block-lt-POOL_BLOCKS}

pub loop-serial-init : goal.loop-serial-init
loop-serial-init c = drop_start c.args.lists.now c.args.pools.now c.args.places.now c.args.serials.now c.requires.sizes.0 c.requires.sizes.1

pub slot-slot-requires : goal.slot-slot-requires
slot-slot-requires c = let serials = c.args.serials.now in let upto = c.loop-serial.serial-index in let pools = c.loop-serial.pools in let left = c.loop-serial.places in let a = get_or serials upto 0 in
    let there = slice_get-get_or serials upto 0 c.loop-serial-test.true in let dead = c.requires.dead in
    dead.3.small a (upto, there)

pub leave_action-requires : goal.leave_action-requires
leave_action-requires c = let serials = c.args.serials.now in let upto = c.loop-serial.serial-index in let pools = c.loop-serial.pools in let left = c.loop-serial.places in let a = get_or serials upto 0 in
    let there = slice_get-get_or serials upto 0 c.loop-serial-test.true in let dead = c.requires.dead in
    record { room = room_slot c.args.lists.now c.args.pools.now c.args.places.now serials pools left upto c.loop-serial.invariant a there c.slot-slot.result c.block-block.result c.slot-slot.ensures.slot c.block-block.ensures (omega (arith, c.if-block-lt-POOL_BLOCKS.true)) (c.if-is_dead.ensures.0 refl) dead.0 dead.1 dead.2 dead.3 }

pub leave_block-requires : goal.leave_block-requires
leave_block-requires c = let serials = c.args.serials.now in let upto = c.loop-serial.serial-index in let pools = c.loop-serial.pools in let left = c.loop-serial.places in let a = get_or serials upto 0 in
    let there = slice_get-get_or serials upto 0 c.loop-serial-test.true in let dead = c.requires.dead in
    record {
      room = subst (λ (p : PoolNumbers). length p.free + length p.left < p.size) (sym (ap (λ (p : Pools). p.blocks) c.leave_action.ensures.others))
          (room_block c.args.lists.now c.args.pools.now c.args.places.now serials pools left upto c.loop-serial.invariant a there c.slot-slot.result c.block-block.result c.slot-slot.ensures.slot c.block-block.ensures (omega (arith, c.if-block-lt-POOL_BLOCKS.true)) (c.if-is_dead.ensures.0 refl) dead.0 dead.1 dead.2 dead.3);
    }

pub loop-serial-preserved : goal.loop-serial-preserved
loop-serial-preserved c = let serials = c.args.serials.now in let upto = c.loop-serial.serial-index in let pools = c.loop-serial.pools in let left = c.loop-serial.places in let a = get_or serials upto 0 in
    let there = slice_get-get_or serials upto 0 c.loop-serial-test.true in let dead = c.requires.dead in
    elim c.if-block-lt-POOL_BLOCKS.branch [
      | then-block-lt-POOL_BLOCKS+then-is_dead w ↦ subst (λ (p : Placed). DropLoop c.args.lists.now c.args.pools.now c.args.places.now serials c.if-block-lt-POOL_BLOCKS.pools p (upto + 1)) (sym w.places-is)
          (subst (λ (p : Pools). DropLoop c.args.lists.now c.args.pools.now c.args.places.now serials p w.clear.new.self (upto + 1)) (sym w.pools-is)
          (loop_dropped c.args.lists.now c.args.pools.now c.args.places.now serials pools left upto c.loop-serial.invariant a there c.slot-slot.result c.block-block.result c.slot-slot.ensures.slot c.block-block.ensures (omega (arith, w.if-block-lt-POOL_BLOCKS.true)) (w.if-is_dead.ensures.0 refl) w.leave_action.new.self w.leave_block.new.self w.clear.new.self w.leave_action.ensures.pools w.leave_action.ensures.free w.leave_action.ensures.left w.leave_action.ensures.size w.leave_action.ensures.others
          w.leave_block.ensures.pools w.leave_block.ensures.free w.leave_block.ensures.left w.leave_block.ensures.size w.leave_block.ensures.others w.clear.ensures))
      | else-block-lt-POOL_BLOCKS w ↦ subst (λ (p : Placed). DropLoop c.args.lists.now c.args.pools.now c.args.places.now serials c.if-block-lt-POOL_BLOCKS.pools p (upto + 1)) (sym w.places-is)
          (subst (λ (p : Pools). DropLoop c.args.lists.now c.args.pools.now c.args.places.now serials p left (upto + 1)) (sym w.pools-is)
          (loop_kept c.args.lists.now c.args.pools.now c.args.places.now serials pools left upto c.loop-serial.invariant a there c.slot-slot.result c.block-block.result c.slot-slot.ensures.slot c.block-block.ensures (elim w.else-block-lt-POOL_BLOCKS.branch [
            | else-block-lt-POOL_BLOCKS-via-then-block-lt-POOL_BLOCKS+else-is_dead v ↦ inl (λ none. let yes_ = v.if-is_dead.ensures.1 none in cc yes_)
            | else-block-lt-POOL_BLOCKS-via-else-block-lt-POOL_BLOCKS v ↦ inr (λ less. omega (arith, less, v.if-block-lt-POOL_BLOCKS.false))
          ])))
    ]

pub returns-clause-dropped : goal.returns-clause-dropped
returns-clause-dropped c = drop_end c.args.lists.now c.args.pools.now c.args.places.now c.args.serials.now c.loop-serial.pools c.loop-serial.places c.loop-serial.serial-index c.loop-serial.invariant (omega (arith, c.loop-serial-test.false))
