use Rattle.std.proofs.Common.{◌∙◌, ◌+◌, [], ◌∷◌, ◌++◌, get_or, refl, sym}
use mathlib.Core.List.{append_assoc}
use Rattle.mask_table.specs.OfMirrors.Linked.{placed, raise_commits}
use Rattle.miniq_pair.specs.Pairs.{other_place, swap_commit}
use Rattle.desk_actions.specs.OfLedgers.Kept.{commits}
use Rattle.shared_hook.proofs.OfDeskEdits.Commits.{aside_append, raise_aside, swap_aside}
use Rattle.shared_hook.proofs.OfDeskEdits.Swapping.{may_fill, swaps}
use Rattle.shared_hook.proofs.desk_edits.opening.open_on.Goals as goal

-- src/opening.rt:87:5
pub open_mask-requires-clause-idle : goal.open_mask-requires-clause-idle
open_mask-requires-clause-idle g c = may_fill c.args.hook g.E.EditName.edit c.args.ledger.now c.args.pools.now c.args.heads.now c.requires.may

-- src/opening.rt:61:1
pub returns-clause-swapped : goal.returns-clause-swapped
returns-clause-swapped g c = let told = c.open_mask.ensures in let may = c.requires.may in let y = g.E.EditName.edit in let old = c.args.ledger.now in let point = old.point in
    let blocks = c.args.given.now.blocks in let blk = get_or blocks 1 0 in let ps = placed blocks (c.args.filter.now ∷ []) in
    let raised = raise_commits c.args.slot c.args.mask.now blk ps (point + 1) in
    let place = other_place c.args.heads.now.pair.active in
    let last = swap_commit c.args.hook place c.open_mask.new.heads.tables (point + 1) y ∷ [] in
    swaps c.args.hook y old c.args.pools.now c.args.heads.now may
    (record { lists = old.lists; writer = c.open_mask.new.writer; point = old.point + 1 }) c.turn.new.self c.open_mask.new.heads
    (raised ++ last) (told.seen ∙ append_assoc (commits old) raised last)
    (aside_append (point + 1) raised last (raise_aside c.args.slot c.args.mask.now blk ps (point + 1) c.requires.opens.can.small) (swap_aside c.args.hook place c.open_mask.new.heads.tables (point + 1) y))
    told.journal told.lawful (told.store.shaped ∙ sym c.requires.store.shaped) told.sheet refl
    refl told.rests c.turn.ensures (told.pools c.args.pools.now may.pools_are c.requires.handed may.actions may.idle) told.tables told.active told.others
