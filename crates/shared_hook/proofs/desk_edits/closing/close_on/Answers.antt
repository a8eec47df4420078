use Rattle.std.proofs.Common.{◌∙◌, ◌+◌, [], ◌∷◌, refl, sym, subst}
use Rattle.pin_store.specs.declared.shape.Shape.{Shape}
use Rattle.miniq_pair.specs.Pairs.{other_place, swap_commit}
use Rattle.desk_pools.specs.Steps.{turned}
use Rattle.desk_actions.specs.declared.ledgers.ledger.Ledger.{Ledger}
use Rattle.desk_actions.specs.OfLedgers.Kept.{commits}
use Rattle.desk_masks.specs.Masks.{HasMasks}
use Rattle.desk_parts.specs.Desk.{cells}
use Rattle.desk_heads.specs.Closes.{HoldsMasks}
use Rattle.shared_hook.proofs.OfDeskEdits.Commits.{swap_aside}
use Rattle.shared_hook.proofs.OfDeskEdits.Swapping.{may_fill, swaps}
use Rattle.shared_hook.proofs.OfDeskEdits.Closable.{may_all, closed_pools, closed_masks, closed_left}
use Rattle.shared_hook.proofs.desk_edits.closing.close_on.Goals as goal

pub close_masks-requires-clause-idle : goal.close_masks-requires-clause-idle
close_masks-requires-clause-idle g c = may_fill c.args.hook g.E.EditName.edit c.args.ledger.now c.args.pools.now c.args.heads.now c.requires.may

pub part_with_gone-requires-clause-may : goal.part_with_gone-requires-clause-may
part_with_gone-requires-clause-may g c = let told = c.close_masks.ensures in let may = c.requires.may in let y = g.E.EditName.edit in let hook = c.args.hook in let old = c.args.ledger.now in let pools = c.args.pools.now in let heads = c.args.heads.now in let given = c.close_masks.new.heads in let masks = c.args.masks.now in
    let place = other_place heads.pair.active in let number = old.point + 1 in
    let new : Ledger = record { lists = old.lists; writer = c.close_masks.new.writer; point = old.point + 1 } in
    let sw = swaps hook y old pools heads may new (turned hook pools) given (swap_commit hook place given.tables number y ∷ []) told.seen (swap_aside hook place given.tables number y)
    told.journal told.lawful (told.store.shaped ∙ sym c.requires.store.shaped) told.sheet refl
    refl told.rests refl (told.pools pools may.pools_are may.actions may.idle) told.tables told.active told.others in
    let shape = sym c.requires.store.shaped ∙ may.shaped in
    let holds = subst (λ (s : Shape). HasMasks masks s (cells old) (commits old) → HoldsMasks masks s (cells new) (commits new)) shape (told.masks masks) c.requires.masks in
    let had = subst (λ (z : Shape). HasMasks masks z (cells old) (commits old)) (sym shape) c.requires.masks in
    may_all hook y old new pools heads given may masks c.requires.masks c.requires.closes sw holds told.stays (λ m s at none. told.gone masks m s had at none) place given.tables number told.seen c.turn.new.self c.turn.ensures c.as_slice.result.now (c.as_slice.ensures ∙ told.room) c.as_slice-2.result.now c.as_slice-2.ensures

pub returns-clause-swapped : goal.returns-clause-swapped
returns-clause-swapped g c = let told = c.close_masks.ensures in let may = c.requires.may in let y = g.E.EditName.edit in let hook = c.args.hook in let old = c.args.ledger.now in let pools = c.args.pools.now in let heads = c.args.heads.now in let given = c.close_masks.new.heads in let masks = c.args.masks.now in
    let place = other_place heads.pair.active in let number = old.point + 1 in
    let new : Ledger = record { lists = old.lists; writer = c.close_masks.new.writer; point = old.point + 1 } in
    let sw = swaps hook y old pools heads may new (turned hook pools) given (swap_commit hook place given.tables number y ∷ []) told.seen (swap_aside hook place given.tables number y)
    told.journal told.lawful (told.store.shaped ∙ sym c.requires.store.shaped) told.sheet refl
    refl told.rests refl (told.pools pools may.pools_are may.actions may.idle) told.tables told.active told.others in
    sw

pub returns-clause-masks : goal.returns-clause-masks
returns-clause-masks g c = let told = c.close_masks.ensures in let may = c.requires.may in let y = g.E.EditName.edit in let hook = c.args.hook in let old = c.args.ledger.now in let pools = c.args.pools.now in let heads = c.args.heads.now in let given = c.close_masks.new.heads in let masks = c.args.masks.now in
    let place = other_place heads.pair.active in let number = old.point + 1 in
    let new : Ledger = record { lists = old.lists; writer = c.close_masks.new.writer; point = old.point + 1 } in
    let sw = swaps hook y old pools heads may new (turned hook pools) given (swap_commit hook place given.tables number y ∷ []) told.seen (swap_aside hook place given.tables number y)
    told.journal told.lawful (told.store.shaped ∙ sym c.requires.store.shaped) told.sheet refl
    refl told.rests refl (told.pools pools may.pools_are may.actions may.idle) told.tables told.active told.others in
    let shape = sym c.requires.store.shaped ∙ may.shaped in
    let holds = subst (λ (s : Shape). HasMasks masks s (cells old) (commits old) → HoldsMasks masks s (cells new) (commits new)) shape (told.masks masks) c.requires.masks in
    let had = subst (λ (z : Shape). HasMasks masks z (cells old) (commits old)) (sym shape) c.requires.masks in
    closed_masks hook y old new pools heads given may masks c.requires.masks c.requires.closes sw holds told.stays (λ m s at none. told.gone masks m s had at none) place given.tables number told.seen c.turn.new.self c.turn.ensures c.as_slice.result.now (c.as_slice.ensures ∙ told.room) c.as_slice-2.result.now c.as_slice-2.ensures
    c.part_with_gone.new.masks c.part_with_gone.new.pools c.part_with_gone.ensures.parting c.part_with_gone.ensures.left

pub returns-clause-pools : goal.returns-clause-pools
returns-clause-pools g c = let told = c.close_masks.ensures in let may = c.requires.may in let y = g.E.EditName.edit in let hook = c.args.hook in let old = c.args.ledger.now in let pools = c.args.pools.now in let heads = c.args.heads.now in let given = c.close_masks.new.heads in let masks = c.args.masks.now in
    let place = other_place heads.pair.active in let number = old.point + 1 in
    let new : Ledger = record { lists = old.lists; writer = c.close_masks.new.writer; point = old.point + 1 } in
    let sw = swaps hook y old pools heads may new (turned hook pools) given (swap_commit hook place given.tables number y ∷ []) told.seen (swap_aside hook place given.tables number y)
    told.journal told.lawful (told.store.shaped ∙ sym c.requires.store.shaped) told.sheet refl
    refl told.rests refl (told.pools pools may.pools_are may.actions may.idle) told.tables told.active told.others in
    let shape = sym c.requires.store.shaped ∙ may.shaped in
    let holds = subst (λ (s : Shape). HasMasks masks s (cells old) (commits old) → HoldsMasks masks s (cells new) (commits new)) shape (told.masks masks) c.requires.masks in
    let had = subst (λ (z : Shape). HasMasks masks z (cells old) (commits old)) (sym shape) c.requires.masks in
    closed_pools hook y old new pools heads given may masks c.requires.masks c.requires.closes sw holds told.stays (λ m s at none. told.gone masks m s had at none) place given.tables number told.seen c.turn.new.self c.turn.ensures c.as_slice.result.now (c.as_slice.ensures ∙ told.room) c.as_slice-2.result.now c.as_slice-2.ensures
    c.part_with_gone.new.masks c.part_with_gone.new.pools c.part_with_gone.ensures.parting c.part_with_gone.ensures.left

pub returns-clause-left : goal.returns-clause-left
returns-clause-left g c = let told = c.close_masks.ensures in let may = c.requires.may in let y = g.E.EditName.edit in let hook = c.args.hook in let old = c.args.ledger.now in let pools = c.args.pools.now in let heads = c.args.heads.now in let given = c.close_masks.new.heads in let masks = c.args.masks.now in
    let place = other_place heads.pair.active in let number = old.point + 1 in
    let new : Ledger = record { lists = old.lists; writer = c.close_masks.new.writer; point = old.point + 1 } in
    let sw = swaps hook y old pools heads may new (turned hook pools) given (swap_commit hook place given.tables number y ∷ []) told.seen (swap_aside hook place given.tables number y)
    told.journal told.lawful (told.store.shaped ∙ sym c.requires.store.shaped) told.sheet refl
    refl told.rests refl (told.pools pools may.pools_are may.actions may.idle) told.tables told.active told.others in
    let shape = sym c.requires.store.shaped ∙ may.shaped in
    let holds = subst (λ (s : Shape). HasMasks masks s (cells old) (commits old) → HoldsMasks masks s (cells new) (commits new)) shape (told.masks masks) c.requires.masks in
    let had = subst (λ (z : Shape). HasMasks masks z (cells old) (commits old)) (sym shape) c.requires.masks in
    closed_left hook y old new pools heads given may masks c.requires.masks c.requires.closes sw holds told.stays (λ m s at none. told.gone masks m s had at none) place given.tables number told.seen c.turn.new.self c.turn.ensures c.as_slice.result.now (c.as_slice.ensures ∙ told.room) c.as_slice-2.result.now c.as_slice-2.ensures
    c.part_with_gone.new.masks c.part_with_gone.new.pools c.part_with_gone.ensures.parting c.part_with_gone.ensures.left
