use Rattle.std.proofs.Common.{◌∙◌, ◌+◌, refl, sym, ap, subst, arith}
use Rattle.filter_state.specs.declared.refusal.Done.{Done}
use Rattle.desk_pools.specs.OfNumbers.Numbers.{PoolNumbers}
use Rattle.hook_store_law.specs.OfEdits.Premises.{now, next}
use Rattle.desk_pools.specs.declared.pools.Pools.{Pools}
use Rattle.desk_actions.specs.OfLedgers.Kept.{commits, base}
use Rattle.desk_actions.specs.Effects.{IsCounted}
use Rattle.shared_hook.specs.OfDeskEdits.Ahead.{IsAhead}
use Rattle.shared_hook.specs.OfDeskEdits.Lines.{IsLineMask}
use Rattle.shared_hook.proofs.OfDeskEdits.Desked.{may_swap, desk_done, other_tables, turned_blocks, turned_rows, turned_masks, turned_sized}
use Rattle.shared_hook.proofs.OfDeskEdits.Openable.{line_mask, can_be_named, are_given, are_handed, opens}
use Rattle.shared_hook.proofs.desk_edits.opening.open_in_head.Goals as goal

pub serial_of-serial-requires : goal.serial_of-serial-requires
serial_of-serial-requires g c = let was = c.args.parts.now in let y = g.E.EditName.edit in let line = c.args.line.now in let n = c.requires.none in
    let ahead = subst (IsAhead was y) n.3 c.requires.ahead in record {
      there = ((now (commits was.ledger)).masks_made + 1, subst (λ (d : Done). IsLineMask was.ledger.lists line d ((now (commits was.ledger)).masks_made + 1)) (sym n.3) (line_mask was y line n.0 n.1 n.2 ahead c.requires.add n.4));
    }

pub stored_filter-filter-requires : goal.stored_filter-filter-requires
stored_filter-filter-requires g c = let was = c.args.parts.now in let y = g.E.EditName.edit in let line = c.args.line.now in let n = c.requires.none in
    let ahead = subst (IsAhead was y) n.3 c.requires.ahead in record {
      stands = (commits was.ledger, next (commits was.ledger) y, n.0, n.1, n.2, n.3, can_be_named was y line n.0 n.1 n.2 ahead c.requires.add n.4);
    }

pub open_at-requires-clause-may : goal.open_at-requires-clause-may
open_at-requires-clause-may g c = let was = c.args.parts.now in let took = c.take_for_mask-slot.ensures in let ahead = c.requires.ahead in
    may_swap was g.E.EditName.edit c.args.done.now ahead c.take_for_mask-slot.new.pools (ap (λ (q : Pools). q.actions) took.others) (ap (λ (q : Pools). q.ingress) took.others) (ap (λ (q : Pools). q.egress) took.others)
    (took.pools (commits was.ledger) (base was.ledger) ahead.has.pools) c.args.line.now.hook c.requires.enough.3

pub open_at-requires-clause-opens : goal.open_at-requires-clause-opens
open_at-requires-clause-opens g c = let was = c.args.parts.now in let y = g.E.EditName.edit in let line = c.args.line.now in let n = c.requires.none in let took = c.take_for_mask-slot.ensures in let mask = c.mask_of-mask.ensures in
    let ahead = subst (IsAhead was y) n.3 c.requires.ahead in let h = commits was.ledger in let b = base was.ledger in
    let serial = c.serial_of-serial.ensures.serial ((now h).masks_made + 1) (subst (λ (d : Done). IsLineMask was.ledger.lists line d ((now h).masks_made + 1)) (sym n.3) (line_mask was y line n.0 n.1 n.2 ahead c.requires.add n.4)) in
    opens was y line n.0 n.1 n.2 ahead c.requires.add n.4 c.take_for_mask-slot.new.pools c.take_for_mask-slot.result.0 c.take_for_mask-slot.result.1.blocks c.take_for_mask-slot.result.1.rows (took.taken h b ahead.has.pools)
    took.many.0 took.many.1 c.mask_of-mask.result (mask.serial ∙ serial) (let fits = c.serial_of-serial.ensures.fits in let same = mask.serial in omega (arith, fits, same)) mask.count mask.words mask.size (mask.rows ∙ c.as_slice.ensures) c.stored_filter-filter.result
    (c.stored_filter-filter.ensures.stored h (next h y) n.0 n.1 n.2 n.3 (can_be_named was y line n.0 n.1 n.2 ahead c.requires.add n.4))

pub open_at-requires-clause-given : goal.open_at-requires-clause-given
open_at-requires-clause-given g c = let was = c.args.parts.now in let took = c.take_for_mask-slot.ensures in let ahead = c.requires.ahead in
    (took.many.0, are_given was g.E.EditName.edit c.args.done.now ahead c.take_for_mask-slot.new.pools c.take_for_mask-slot.result.0 c.take_for_mask-slot.result.1.blocks c.take_for_mask-slot.result.1.rows (took.taken (commits was.ledger) (base was.ledger) ahead.has.pools))

pub open_at-requires-clause-handed : goal.open_at-requires-clause-handed
open_at-requires-clause-handed g c = let was = c.args.parts.now in let took = c.take_for_mask-slot.ensures in let ahead = c.requires.ahead in let mask = c.mask_of-mask.ensures in
    are_handed was g.E.EditName.edit c.args.done.now ahead c.take_for_mask-slot.new.pools c.take_for_mask-slot.result.0 c.take_for_mask-slot.result.1.blocks c.take_for_mask-slot.result.1.rows (took.taken (commits was.ledger) (base was.ledger) ahead.has.pools)
    c.mask_of-mask.result (mask.rows ∙ c.as_slice.ensures)

pub returns-clause-desk : goal.returns-clause-desk
returns-clause-desk g c = let was = c.args.parts.now in let took = c.take_for_mask-slot.ensures in let sized = c.requires.ahead.has.sized in let told = c.open_at.ensures in
    desk_done was g.E.EditName.edit c.args.done.now c.requires.ahead c.args.line.now.hook c.take_for_mask-slot.new.pools c.open_at.new.parts.pools
    (ap (λ (q : Pools). q.ingress) took.others) (ap (λ (q : Pools). q.egress) took.others) c.open_at.new.parts told.swapped told.masks
    (turned_sized c.args.line.now.hook c.take_for_mask-slot.new.pools c.open_at.new.parts.pools told.swapped.turns
    (took.blocks.size ∙ sized.0, took.rows.size ∙ sized.1, took.masks.size ∙ sized.2, ap (λ (q : Pools). q.actions.size) took.others ∙ sized.3))
    told.swapped.pools_are refl refl told.rest

pub returns-clause-blocks : goal.returns-clause-blocks
returns-clause-blocks g c = subst (λ (q : PoolNumbers). IsCounted c.args.parts.now.pools.blocks q 2 0)
    (sym (turned_blocks c.args.line.now.hook c.take_for_mask-slot.new.pools c.open_at.new.parts.pools c.open_at.ensures.swapped.turns)) c.take_for_mask-slot.ensures.blocks

pub returns-clause-rows : goal.returns-clause-rows
returns-clause-rows g c = subst (λ (q : PoolNumbers). IsCounted c.args.parts.now.pools.rows q 1 0)
    (sym (turned_rows c.args.line.now.hook c.take_for_mask-slot.new.pools c.open_at.new.parts.pools c.open_at.ensures.swapped.turns)) c.take_for_mask-slot.ensures.rows

pub returns-clause-masks : goal.returns-clause-masks
returns-clause-masks g c = subst (λ (q : PoolNumbers). IsCounted c.args.parts.now.pools.masks q 1 0)
    (sym (turned_masks c.args.line.now.hook c.take_for_mask-slot.new.pools c.open_at.new.parts.pools c.open_at.ensures.swapped.turns)) c.take_for_mask-slot.ensures.masks

pub returns-clause-tables : goal.returns-clause-tables
returns-clause-tables g c = λ other ne. other_tables c.args.line.now.hook other c.args.parts.now c.open_at.new.parts ne c.open_at.ensures.rest
