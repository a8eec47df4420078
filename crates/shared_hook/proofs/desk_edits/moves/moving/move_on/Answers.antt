use Rattle.std.proofs.Common.{◌∙◌, ◌+◌, [], ◌∷◌, refl, sym, subst}
use Rattle.pin_store.specs.declared.shape.Shape.{Shape}
use Rattle.miniq_pair.specs.Pairs.{other_place, swap_commit}
use Rattle.desk_pools.specs.Steps.{turned}
use Rattle.desk_actions.specs.declared.ledgers.ledger.Ledger.{Ledger}
use Rattle.desk_actions.specs.OfLedgers.Kept.{commits, base}
use Rattle.desk_parts.specs.Desk.{hook_shape, cells}
use Rattle.desk_heads.specs.Closes.{HoldsMasks}
use Rattle.desk_heads.specs.OfMoves.Builds.{HoldsBuilt}
use Rattle.shared_hook.proofs.OfDeskEdits.Commits.{swap_aside}
use Rattle.shared_hook.proofs.OfDeskEdits.Desked.{now_is_next}
use Rattle.shared_hook.proofs.OfDeskEdits.Swapping.{may_fill, swaps}
use Rattle.shared_hook.proofs.OfDeskEdits.OfMoves.Went.{gives, may_all, moved_pools, moved_masks, moved_left}
use Rattle.shared_hook.proofs.desk_edits.moves.moving.move_on.Goals as goal

pub move_masks-requires-clause-gives : goal.move_masks-requires-clause-gives
move_masks-requires-clause-gives g c = let may = c.requires.may in let old = c.args.ledger.now in let m = c.requires.moves in
    gives (commits old) (base old) g.E.EditName.edit c.args.hook c.args.built.now c.args.slot c.args.into m.0 m.1 may.kept.keeps c.requires.ready.0 c.requires.ready.1 m.2 c.args.masks.now hook_shape (cells old) c.requires.holds

pub move_masks-requires-clause-idle : goal.move_masks-requires-clause-idle
move_masks-requires-clause-idle g c = may_fill c.args.hook g.E.EditName.edit c.args.ledger.now c.args.pools.now c.args.heads.now c.requires.may

pub part_with_old-requires-clause-may : goal.part_with_old-requires-clause-may
part_with_old-requires-clause-may g c =
    let told = c.move_masks.ensures in let may = c.requires.may in let y = g.E.EditName.edit in let hook = c.args.hook in let old = c.args.ledger.now in let pools = c.args.pools.now in let heads = c.args.heads.now in let given = c.move_masks.new.heads in let masks = c.args.masks.now in
    let built = c.args.built.now in let slot = c.args.slot in let into = c.args.into in let h = commits old in let b = base old in
    let place = other_place heads.pair.active in let number = old.point + 1 in
    let new : Ledger = record { lists = old.lists; writer = c.move_masks.new.writer; point = old.point + 1 } in
    let shape = sym c.requires.store.shaped ∙ may.shaped in
    let has = subst (λ (s : Shape). HoldsBuilt masks s (cells old) h b y built) (sym shape) c.requires.holds in
    let sw = swaps hook y old pools heads may new (turned hook pools) given (swap_commit hook place given.tables number y ∷ []) told.seen (swap_aside hook place given.tables number y)
    told.journal told.lawful (told.store.shaped ∙ sym c.requires.store.shaped) told.sheet refl
    refl told.rests refl (told.pools masks pools has may.pools_are c.requires.handed may.actions may.idle) told.tables told.active told.others in
    let holds = subst (λ (s : Shape). HoldsMasks masks s (cells new) (commits new)) shape (told.masks masks has) in
    let m = c.requires.moves in
    may_all h b y hook built slot into m.0 m.1 may.kept.keeps c.requires.ready.0 c.requires.ready.1 m.2 masks hook_shape (cells old) c.requires.holds c.requires.blocks pools may.pools_are
    (commits new) (base new) sw.kept.low sw.kept.keeps given sw.tables (now_is_next h (commits new) y sw.journal) (cells new) holds sw.pools_are told.stays told.only (λ m s at con. told.gone masks m s has at con) place given.tables number told.seen
    c.turn.new.self c.turn.ensures

pub returns-clause-swapped : goal.returns-clause-swapped
returns-clause-swapped g c =
    let told = c.move_masks.ensures in let may = c.requires.may in let y = g.E.EditName.edit in let hook = c.args.hook in let old = c.args.ledger.now in let pools = c.args.pools.now in let heads = c.args.heads.now in let given = c.move_masks.new.heads in let masks = c.args.masks.now in
    let built = c.args.built.now in let slot = c.args.slot in let into = c.args.into in let h = commits old in let b = base old in
    let place = other_place heads.pair.active in let number = old.point + 1 in
    let new : Ledger = record { lists = old.lists; writer = c.move_masks.new.writer; point = old.point + 1 } in
    let shape = sym c.requires.store.shaped ∙ may.shaped in
    let has = subst (λ (s : Shape). HoldsBuilt masks s (cells old) h b y built) (sym shape) c.requires.holds in
    let sw = swaps hook y old pools heads may new (turned hook pools) given (swap_commit hook place given.tables number y ∷ []) told.seen (swap_aside hook place given.tables number y)
    told.journal told.lawful (told.store.shaped ∙ sym c.requires.store.shaped) told.sheet refl
    refl told.rests refl (told.pools masks pools has may.pools_are c.requires.handed may.actions may.idle) told.tables told.active told.others in
    sw

pub returns-clause-masks : goal.returns-clause-masks
returns-clause-masks g c =
    let told = c.move_masks.ensures in let may = c.requires.may in let y = g.E.EditName.edit in let hook = c.args.hook in let old = c.args.ledger.now in let pools = c.args.pools.now in let heads = c.args.heads.now in let given = c.move_masks.new.heads in let masks = c.args.masks.now in
    let built = c.args.built.now in let slot = c.args.slot in let into = c.args.into in let h = commits old in let b = base old in
    let place = other_place heads.pair.active in let number = old.point + 1 in
    let new : Ledger = record { lists = old.lists; writer = c.move_masks.new.writer; point = old.point + 1 } in
    let shape = sym c.requires.store.shaped ∙ may.shaped in
    let has = subst (λ (s : Shape). HoldsBuilt masks s (cells old) h b y built) (sym shape) c.requires.holds in
    let sw = swaps hook y old pools heads may new (turned hook pools) given (swap_commit hook place given.tables number y ∷ []) told.seen (swap_aside hook place given.tables number y)
    told.journal told.lawful (told.store.shaped ∙ sym c.requires.store.shaped) told.sheet refl
    refl told.rests refl (told.pools masks pools has may.pools_are c.requires.handed may.actions may.idle) told.tables told.active told.others in
    let holds = subst (λ (s : Shape). HoldsMasks masks s (cells new) (commits new)) shape (told.masks masks has) in
    let m = c.requires.moves in
    moved_masks h b y hook built slot into m.0 m.1 may.kept.keeps c.requires.ready.0 c.requires.ready.1 m.2 masks hook_shape (cells old) c.requires.holds c.requires.blocks pools may.pools_are
    (commits new) (base new) sw.kept.low sw.kept.keeps given sw.tables (now_is_next h (commits new) y sw.journal) (cells new) holds sw.pools_are told.stays told.only (λ m s at con. told.gone masks m s has at con) place given.tables number told.seen
    c.turn.new.self c.turn.ensures c.part_with_old.new.masks c.part_with_old.new.pools c.part_with_old.ensures.parting c.part_with_old.ensures.left

pub returns-clause-pools : goal.returns-clause-pools
returns-clause-pools g c =
    let told = c.move_masks.ensures in let may = c.requires.may in let y = g.E.EditName.edit in let hook = c.args.hook in let old = c.args.ledger.now in let pools = c.args.pools.now in let heads = c.args.heads.now in let given = c.move_masks.new.heads in let masks = c.args.masks.now in
    let built = c.args.built.now in let slot = c.args.slot in let into = c.args.into in let h = commits old in let b = base old in
    let place = other_place heads.pair.active in let number = old.point + 1 in
    let new : Ledger = record { lists = old.lists; writer = c.move_masks.new.writer; point = old.point + 1 } in
    let shape = sym c.requires.store.shaped ∙ may.shaped in
    let has = subst (λ (s : Shape). HoldsBuilt masks s (cells old) h b y built) (sym shape) c.requires.holds in
    let sw = swaps hook y old pools heads may new (turned hook pools) given (swap_commit hook place given.tables number y ∷ []) told.seen (swap_aside hook place given.tables number y)
    told.journal told.lawful (told.store.shaped ∙ sym c.requires.store.shaped) told.sheet refl
    refl told.rests refl (told.pools masks pools has may.pools_are c.requires.handed may.actions may.idle) told.tables told.active told.others in
    let holds = subst (λ (s : Shape). HoldsMasks masks s (cells new) (commits new)) shape (told.masks masks has) in
    let m = c.requires.moves in
    moved_pools h b y hook built slot into m.0 m.1 may.kept.keeps c.requires.ready.0 c.requires.ready.1 m.2 masks hook_shape (cells old) c.requires.holds c.requires.blocks pools may.pools_are
    (commits new) (base new) sw.kept.low sw.kept.keeps given sw.tables (now_is_next h (commits new) y sw.journal) (cells new) holds sw.pools_are told.stays told.only (λ m s at con. told.gone masks m s has at con) place given.tables number told.seen
    c.turn.new.self c.turn.ensures c.part_with_old.new.masks c.part_with_old.new.pools c.part_with_old.ensures.parting c.part_with_old.ensures.left

pub returns-clause-left : goal.returns-clause-left
returns-clause-left g c = λ to from moves.
    let told = c.move_masks.ensures in let may = c.requires.may in let y = g.E.EditName.edit in let hook = c.args.hook in let old = c.args.ledger.now in let pools = c.args.pools.now in let heads = c.args.heads.now in let given = c.move_masks.new.heads in let masks = c.args.masks.now in
    let built = c.args.built.now in let slot = c.args.slot in let into = c.args.into in let h = commits old in let b = base old in
    let place = other_place heads.pair.active in let number = old.point + 1 in
    let new : Ledger = record { lists = old.lists; writer = c.move_masks.new.writer; point = old.point + 1 } in
    let shape = sym c.requires.store.shaped ∙ may.shaped in
    let has = subst (λ (s : Shape). HoldsBuilt masks s (cells old) h b y built) (sym shape) c.requires.holds in
    let sw = swaps hook y old pools heads may new (turned hook pools) given (swap_commit hook place given.tables number y ∷ []) told.seen (swap_aside hook place given.tables number y)
    told.journal told.lawful (told.store.shaped ∙ sym c.requires.store.shaped) told.sheet refl
    refl told.rests refl (told.pools masks pools has may.pools_are c.requires.handed may.actions may.idle) told.tables told.active told.others in
    let holds = subst (λ (s : Shape). HoldsMasks masks s (cells new) (commits new)) shape (told.masks masks has) in
    moved_left h b y hook built slot into to from may.kept.keeps c.requires.ready.0 c.requires.ready.1 moves masks hook_shape (cells old) c.requires.holds c.requires.blocks pools may.pools_are
    (commits new) (base new) sw.kept.low sw.kept.keeps given sw.tables (now_is_next h (commits new) y sw.journal) (cells new) holds sw.pools_are told.stays told.only (λ m s at con. told.gone masks m s has at con) place given.tables number told.seen
    c.turn.new.self c.turn.ensures c.part_with_old.new.masks c.part_with_old.new.pools c.part_with_old.ensures.parting c.part_with_old.ensures.left
