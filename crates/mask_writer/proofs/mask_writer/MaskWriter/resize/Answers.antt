use Rattle.std.proofs.Common.{◌∙◌, List, set, get_or, Option, Some, None, refl, sym, ap, length, arith, get_or-set_same}
use Rattle.store_history.specs.History.{root_of}
use Rattle.pin_store.specs.Calls.{seen_by, sheet_of}
use Rattle.mask_table.specs.declared.mirrors.mirror.KeptMask.{KeptMask}
use Rattle.mask_table.specs.OfMirrors.Linked.{placed, resized}
use Rattle.mask_table.specs.OfMirrors.Kept.{Stands}
use Rattle.mask_writer.specs.Masks.{Masks}
use Rattle.mask_writer.proofs.Showing.{seen_as, masks_are, stands_kept, stands_shown, order_is, rows_kept, named_kept, named_shown, holds_kept, holds_again}
use Rattle.mask_writer.proofs.Editing.{told_again, order_after, holds_others, same_edit, same_list}
use Rattle.mask_writer.proofs.Untouched.{others_stay, slots_set, raised_roots}
use Rattle.mask_writer.proofs.mask_writer.MaskWriter.resize.Goals as goal

pub resize_mask-requires-clause-rows : goal.resize_mask-requires-clause-rows
resize_mask-requires-clause-rows g c = let w = c.args.self.now in let m = c.self.inside.mirror in let os = c.self.inside.told.orders in let at = ap (λ (v : Masks). v.at) (sym c.self.view_is) in let slot = c.args.slot in
    rows_kept w m os at c.args.given.now.rows c.requires.rows

pub resize_mask-requires-clause-there : goal.resize_mask-requires-clause-there
resize_mask-requires-clause-there g c = let w = c.args.self.now in let m = c.self.inside.mirror in let os = c.self.inside.told.orders in let at = ap (λ (v : Masks). v.at) (sym c.self.view_is) in let slot = c.args.slot in
    let r = c.requires.there in (r.0, r.1, r.2, stands_kept w m os at slot r.0 r.3, holds_kept w m os at c.self.invariant slot r.1 r.2 r.4)

pub resize_mask-requires-clause-many : goal.resize_mask-requires-clause-many
resize_mask-requires-clause-many g c = λ last fs has. let w = c.args.self.now in let m = c.self.inside.mirror in let os = c.self.inside.told.orders in let at = ap (λ (v : Masks). v.at) (sym c.self.view_is) in let slot = c.args.slot in
    let r = c.requires.there in c.requires.many r.1 fs (holds_again w m os at c.self.invariant slot r.1 last r.2 fs r.4 has)

pub resize_mask-requires-clause-kept : goal.resize_mask-requires-clause-kept
resize_mask-requires-clause-kept g c = let w = c.args.self.now in let m = c.self.inside.mirror in let os = c.self.inside.told.orders in let at = ap (λ (v : Masks). v.at) (sym c.self.view_is) in let slot = c.args.slot in let old = c.args.writer.now.place in let shape = c.args.store.now.shape in
    named_kept w m os at shape (sheet_of old).cells (root_of (seen_by old)) c.self.invariant c.requires.kept

pub resize_mask-requires-clause-lawful : goal.resize_mask-requires-clause-lawful
resize_mask-requires-clause-lawful g c = λ kept last fs n stands has. let w = c.args.self.now in let m = c.self.inside.mirror in let os = c.self.inside.told.orders in let at = ap (λ (v : Masks). v.at) (sym c.self.view_is) in let slot = c.args.slot in
    let r = c.requires.there in c.requires.lawful kept r.1 fs n (stands_shown w m os at slot kept stands) (holds_again w m os at c.self.invariant slot r.1 last r.2 fs r.4 has)

pub invariant_of-self : goal.invariant_of-self
invariant_of-self g c = let w = c.args.self.now in let m = c.self.inside.mirror in let os = c.self.inside.told.orders in let at = ap (λ (v : Masks). v.at) (sym c.self.view_is) in let slot = c.args.slot in let old = c.args.writer.now.place in let shape = c.args.store.now.shape in let m2 = c.resize_mask.new.mirror in let os2 = os in let new = c.resize_mask.new.writer.place in let w2 = seen_as m2 os2 c.resize_mask.new.left_blocks c.resize_mask.new.left_rows in
    let e = same_edit m m2 os os2 slot c.requires.slot c.self.invariant (shape, (sheet_of new).cells, root_of (seen_by new), c.resize_mask.ensures.kept) c.resize_mask.ensures.lists refl c.resize_mask.ensures.list in
    told_again m m2 os os2 slot (get_or os slot None) e

pub returns-clause-seen : goal.returns-clause-seen
returns-clause-seen g c = λ kept last fs stands has. let w = c.args.self.now in let m = c.self.inside.mirror in let os = c.self.inside.told.orders in let at = ap (λ (v : Masks). v.at) (sym c.self.view_is) in let slot = c.args.slot in
    c.resize_mask.ensures.seen kept last fs (stands_kept w m os at slot kept stands) (holds_kept w m os at c.self.invariant slot last fs has)

pub returns-clause-kept : goal.returns-clause-kept
returns-clause-kept g c = let w = c.args.self.now in let m = c.self.inside.mirror in let os = c.self.inside.told.orders in let at = ap (λ (v : Masks). v.at) (sym c.self.view_is) in let slot = c.args.slot in let old = c.args.writer.now.place in let shape = c.args.store.now.shape in let m2 = c.resize_mask.new.mirror in let os2 = os in let new = c.resize_mask.new.writer.place in let w2 = seen_as m2 os2 c.resize_mask.new.left_blocks c.resize_mask.new.left_rows in
    named_shown w2 m2 os2 refl shape (sheet_of new).cells (root_of (seen_by new)) c.resize_mask.ensures.kept

pub returns-clause-masks : goal.returns-clause-masks
returns-clause-masks g c = λ kept last fs stands has. let w = c.args.self.now in let m = c.self.inside.mirror in let os = c.self.inside.told.orders in let at = ap (λ (v : Masks). v.at) (sym c.self.view_is) in let slot = c.args.slot in let old = c.args.writer.now.place in let shape = c.args.store.now.shape in let m2 = c.resize_mask.new.mirror in let os2 = os in let new = c.resize_mask.new.writer.place in let w2 = seen_as m2 os2 c.resize_mask.new.left_blocks c.resize_mask.new.left_rows in
    masks_are w2 m2 os2 refl ∙ (c.resize_mask.ensures.masks kept last fs (stands_kept w m os at slot kept stands) (holds_kept w m os at c.self.invariant slot last fs has)
    ∙ ap (λ (xs : List (Option KeptMask)). set xs slot (Some (record { block = get_or c.args.given.now.blocks (length fs) 0; mask = resized kept.mask c.args.size c.args.given.now.rows }))) (sym (masks_are w m os at)))

pub returns-clause-order : goal.returns-clause-order
returns-clause-order g c = let w = c.args.self.now in let m = c.self.inside.mirror in let os = c.self.inside.told.orders in let at = ap (λ (v : Masks). v.at) (sym c.self.view_is) in let slot = c.args.slot in let old = c.args.writer.now.place in let shape = c.args.store.now.shape in let m2 = c.resize_mask.new.mirror in let os2 = os in let new = c.resize_mask.new.writer.place in let w2 = seen_as m2 os2 c.resize_mask.new.left_blocks c.resize_mask.new.left_rows in
    let e = same_edit m m2 os os2 slot c.requires.slot c.self.invariant (shape, (sheet_of new).cells, root_of (seen_by new), c.resize_mask.ensures.kept) c.resize_mask.ensures.lists refl c.resize_mask.ensures.list in
    let r = c.requires.there in let has = c.resize_mask.ensures.list r.1 r.2 (holds_kept w m os at c.self.invariant slot r.1 r.2 r.4) in
    order_after m m2 os os2 slot (get_or os slot None) e w2 refl has.kept has.stands ∙ sym (order_is w m os at slot r.0 (stands_kept w m os at slot r.0 r.3))

pub returns-clause-list : goal.returns-clause-list
returns-clause-list g c = let w = c.args.self.now in let m = c.self.inside.mirror in let os = c.self.inside.told.orders in let at = ap (λ (v : Masks). v.at) (sym c.self.view_is) in let slot = c.args.slot in let old = c.args.writer.now.place in let shape = c.args.store.now.shape in let m2 = c.resize_mask.new.mirror in let os2 = os in let new = c.resize_mask.new.writer.place in let w2 = seen_as m2 os2 c.resize_mask.new.left_blocks c.resize_mask.new.left_rows in
    let e = same_edit m m2 os os2 slot c.requires.slot c.self.invariant (shape, (sheet_of new).cells, root_of (seen_by new), c.resize_mask.ensures.kept) c.resize_mask.ensures.lists refl c.resize_mask.ensures.list in
    same_list m m2 os os2 slot c.requires.slot c.self.invariant (shape, (sheet_of new).cells, root_of (seen_by new), c.resize_mask.ensures.kept) c.resize_mask.ensures.lists w w2 at refl e

pub returns-clause-lists : goal.returns-clause-lists
returns-clause-lists g c = let w = c.args.self.now in let m = c.self.inside.mirror in let os = c.self.inside.told.orders in let at = ap (λ (v : Masks). v.at) (sym c.self.view_is) in let slot = c.args.slot in let old = c.args.writer.now.place in let shape = c.args.store.now.shape in let m2 = c.resize_mask.new.mirror in let os2 = os in let new = c.resize_mask.new.writer.place in let w2 = seen_as m2 os2 c.resize_mask.new.left_blocks c.resize_mask.new.left_rows in
    let e = same_edit m m2 os os2 slot c.requires.slot c.self.invariant (shape, (sheet_of new).cells, root_of (seen_by new), c.resize_mask.ensures.kept) c.resize_mask.ensures.lists refl c.resize_mask.ensures.list in
    holds_others m m2 os os2 slot (get_or os slot None) e w2 refl w at

pub returns-clause-left : goal.returns-clause-left
returns-clause-left g c = λ kept stands. let w = c.args.self.now in let m = c.self.inside.mirror in let os = c.self.inside.told.orders in let at = ap (λ (v : Masks). v.at) (sym c.self.view_is) in let slot = c.args.slot in
    c.resize_mask.ensures.left kept (stands_kept w m os at slot kept stands)

pub returns-clause-untouched : goal.returns-clause-untouched
returns-clause-untouched g c = let w = c.args.self.now in let m = c.self.inside.mirror in let os = c.self.inside.told.orders in let at = ap (λ (v : Masks). v.at) (sym c.self.view_is) in let slot = c.args.slot in let old = c.args.writer.now.place in let shape = c.args.store.now.shape in let m2 = c.resize_mask.new.mirror in let os2 = os in let new = c.resize_mask.new.writer.place in let w2 = seen_as m2 os2 c.resize_mask.new.left_blocks c.resize_mask.new.left_rows in
    let e = same_edit m m2 os os2 slot c.requires.slot c.self.invariant (shape, (sheet_of new).cells, root_of (seen_by new), c.resize_mask.ensures.kept) c.resize_mask.ensures.lists refl c.resize_mask.ensures.list in
    let r = c.requires.there in let here = stands_kept w m os at slot r.0 r.3 in let has = holds_kept w m os at c.self.invariant slot r.1 r.2 r.4 in
    let mask = resized r.0.mask c.args.size c.args.given.now.rows in let b = get_or c.args.given.now.blocks (length r.2) 0 in
    let masks = c.resize_mask.ensures.masks r.0 r.1 r.2 here has in let long = m.slots_long in let small = c.requires.slot in
    let there : Stands m2 slot (record { block = b; mask = mask }) = ap (λ (xs : List (Option KeptMask)). get_or xs slot None) masks ∙ get_or-set_same m.slots.items slot (Some (record { block = b; mask = mask })) None (omega arith) in
    let keeps = named_kept w m os at shape (sheet_of old).cells (root_of (seen_by old)) c.self.invariant c.requires.kept in
    others_stay m m2 os os2 slot (get_or os slot None) e w w2 at refl shape (sheet_of old).cells (sheet_of new).cells (root_of (seen_by old)) (root_of (seen_by new)) keeps c.resize_mask.ensures.kept
    (raised_roots m shape (sheet_of old).cells (seen_by old) (seen_by new) slot keeps c.requires.slot mask b (placed c.args.given.now.blocks r.2) c.args.stamp (c.resize_mask.ensures.kept.masks slot (record { block = b; mask = mask }) there).there.storable (rows_kept w m os at c.args.given.now.rows c.requires.rows) (c.resize_mask.ensures.seen r.0 r.1 r.2 here has))
    (slots_set m m2 slot (Some (record { block = b; mask = mask })) masks)
