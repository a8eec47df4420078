use Rattle.std.proofs.Common.{◌∙◌, List, [], ◌∷◌, set, get_or, Option, None, refl, sym, ap}
use Rattle.store_history.specs.History.{root_of}
use Rattle.pin_store.specs.Calls.{seen_by, sheet_of}
use Rattle.block_codec.specs.declared.filter.StoredFilter.{StoredFilter}
use Rattle.mask_table.specs.declared.mirrors.mirror.KeptMask.{KeptMask}
use Rattle.mask_table.specs.OfMirrors.Kept.{BucketAt}
use Rattle.mask_table.specs.OfMirrors.Changing.{root_for, replace_at}
use Rattle.mask_writer.specs.Masks.{Order, Masks}
use Rattle.mask_writer.specs.Telling.{exchanged}
use Rattle.mask_writer.proofs.Showing.{seen_as, masks_are, stands_kept, stands_shown, order_is, named_kept, named_shown}
use Rattle.mask_writer.proofs.Editing.{told_again, order_after, holds_others, exchanged_edit, exchanged_list}
use Rattle.mask_writer.proofs.Untouched.{others_stay, slots_same, one_root}
use Rattle.mask_writer.proofs.mask_writer.MaskWriter.replace.Goals as goal

pub exchange-requires-clause-there : goal.exchange-requires-clause-there
exchange-requires-clause-there g c = let w = c.args.self.now in let m = c.self.inside.mirror in let os = c.self.inside.told.orders in let at = ap (λ (v : Masks). v.at) (sym c.self.view_is) in let slot = c.args.slot in
    let r = c.requires.there in (r.0, r.1, r.2, stands_kept w m os at slot r.0 r.3, r.4)

pub exchange-requires-clause-many : goal.exchange-requires-clause-many
exchange-requires-clause-many g c = λ kept front filter stands found. let w = c.args.self.now in let m = c.self.inside.mirror in let os = c.self.inside.told.orders in let at = ap (λ (v : Masks). v.at) (sym c.self.view_is) in let slot = c.args.slot in
    c.requires.many kept front filter (stands_shown w m os at slot kept stands) found

pub exchange-requires-clause-lawful : goal.exchange-requires-clause-lawful
exchange-requires-clause-lawful g c = λ kept front filter stands found. let w = c.args.self.now in let m = c.self.inside.mirror in let os = c.self.inside.told.orders in let at = ap (λ (v : Masks). v.at) (sym c.self.view_is) in let slot = c.args.slot in
    c.requires.lawful kept front filter (stands_shown w m os at slot kept stands) found

pub exchange-requires-clause-kept : goal.exchange-requires-clause-kept
exchange-requires-clause-kept g c = let w = c.args.self.now in let m = c.self.inside.mirror in let os = c.self.inside.told.orders in let at = ap (λ (v : Masks). v.at) (sym c.self.view_is) in let slot = c.args.slot in let old = c.args.writer.now.place in let shape = c.args.store.now.shape in
    named_kept w m os at shape (sheet_of old).cells (root_of (seen_by old)) c.self.invariant c.requires.kept

pub invariant_of-self : goal.invariant_of-self
invariant_of-self g c = let w = c.args.self.now in let m = c.self.inside.mirror in let os = c.self.inside.told.orders in let at = ap (λ (v : Masks). v.at) (sym c.self.view_is) in let slot = c.args.slot in let old = c.args.writer.now.place in let shape = c.args.store.now.shape in let m2 = c.exchange.new.mirror in let os2 = c.with-self-inside.result.orders in let new = c.exchange.new.writer.place in
    let e = exchanged_edit m m2 os os2 slot c.requires.slot c.self.invariant (shape, (sheet_of new).cells, root_of (seen_by new), c.exchange.ensures.kept) c.exchange.ensures.lists c.args.filter.now c.args.edit (c.with-self-inside.ensures ∙ ap (λ (fs : List StoredFilter). set os slot (exchanged (get_or os slot None) fs c.args.edit)) c.from_ref-one.ensures.value) c.exchange.ensures.list in
    told_again m m2 os os2 slot (exchanged (get_or os slot None) (c.args.filter.now ∷ []) c.args.edit) e

pub returns-clause-kept : goal.returns-clause-kept
returns-clause-kept g c = let w = c.args.self.now in let m = c.self.inside.mirror in let os = c.self.inside.told.orders in let at = ap (λ (v : Masks). v.at) (sym c.self.view_is) in let slot = c.args.slot in let old = c.args.writer.now.place in let shape = c.args.store.now.shape in let m2 = c.exchange.new.mirror in let os2 = c.with-self-inside.result.orders in let new = c.exchange.new.writer.place in let w2 = seen_as m2 os2 c.exchange.new.left c.clear.new.self in
    named_shown w2 m2 os2 refl shape (sheet_of new).cells (root_of (seen_by new)) c.exchange.ensures.kept

pub returns-clause-done : goal.returns-clause-done
returns-clause-done g c = λ kept stands. let w = c.args.self.now in let m = c.self.inside.mirror in let os = c.self.inside.told.orders in let at = ap (λ (v : Masks). v.at) (sym c.self.view_is) in let slot = c.args.slot in
    c.exchange.ensures.done kept (stands_kept w m os at slot kept stands)

pub returns-clause-masks : goal.returns-clause-masks
returns-clause-masks g c = let w = c.args.self.now in let m = c.self.inside.mirror in let os = c.self.inside.told.orders in let at = ap (λ (v : Masks). v.at) (sym c.self.view_is) in let slot = c.args.slot in let old = c.args.writer.now.place in let shape = c.args.store.now.shape in let m2 = c.exchange.new.mirror in let os2 = c.with-self-inside.result.orders in let new = c.exchange.new.writer.place in let w2 = seen_as m2 os2 c.exchange.new.left c.clear.new.self in
    masks_are w2 m2 os2 refl ∙ (c.exchange.ensures.masks ∙ sym (masks_are w m os at))

pub returns-clause-order : goal.returns-clause-order
returns-clause-order g c = let w = c.args.self.now in let m = c.self.inside.mirror in let os = c.self.inside.told.orders in let at = ap (λ (v : Masks). v.at) (sym c.self.view_is) in let slot = c.args.slot in let old = c.args.writer.now.place in let shape = c.args.store.now.shape in let m2 = c.exchange.new.mirror in let os2 = c.with-self-inside.result.orders in let new = c.exchange.new.writer.place in let w2 = seen_as m2 os2 c.exchange.new.left c.clear.new.self in
    let e = exchanged_edit m m2 os os2 slot c.requires.slot c.self.invariant (shape, (sheet_of new).cells, root_of (seen_by new), c.exchange.ensures.kept) c.exchange.ensures.lists c.args.filter.now c.args.edit (c.with-self-inside.ensures ∙ ap (λ (fs : List StoredFilter). set os slot (exchanged (get_or os slot None) fs c.args.edit)) c.from_ref-one.ensures.value) c.exchange.ensures.list in
    let r = c.requires.there in let here = stands_kept w m os at slot r.0 r.3 in
    order_after m m2 os os2 slot (exchanged (get_or os slot None) (c.args.filter.now ∷ []) c.args.edit) e w2 refl r.0 (ap (λ (xs : List (Option KeptMask)). get_or xs slot None) c.exchange.ensures.masks ∙ here)
    ∙ ap (λ (b : Option Order). exchanged b (c.args.filter.now ∷ []) c.args.edit) (sym (order_is w m os at slot r.0 here))

pub returns-clause-list : goal.returns-clause-list
returns-clause-list g c = let w = c.args.self.now in let m = c.self.inside.mirror in let os = c.self.inside.told.orders in let at = ap (λ (v : Masks). v.at) (sym c.self.view_is) in let slot = c.args.slot in let old = c.args.writer.now.place in let shape = c.args.store.now.shape in let m2 = c.exchange.new.mirror in let os2 = c.with-self-inside.result.orders in let new = c.exchange.new.writer.place in let w2 = seen_as m2 os2 c.exchange.new.left c.clear.new.self in
    let e = exchanged_edit m m2 os os2 slot c.requires.slot c.self.invariant (shape, (sheet_of new).cells, root_of (seen_by new), c.exchange.ensures.kept) c.exchange.ensures.lists c.args.filter.now c.args.edit (c.with-self-inside.ensures ∙ ap (λ (fs : List StoredFilter). set os slot (exchanged (get_or os slot None) fs c.args.edit)) c.from_ref-one.ensures.value) c.exchange.ensures.list in
    exchanged_list m m2 os os2 slot c.requires.slot c.self.invariant (shape, (sheet_of new).cells, root_of (seen_by new), c.exchange.ensures.kept) c.exchange.ensures.lists w w2 at refl c.args.filter.now c.args.edit e

pub returns-clause-lists : goal.returns-clause-lists
returns-clause-lists g c = let w = c.args.self.now in let m = c.self.inside.mirror in let os = c.self.inside.told.orders in let at = ap (λ (v : Masks). v.at) (sym c.self.view_is) in let slot = c.args.slot in let old = c.args.writer.now.place in let shape = c.args.store.now.shape in let m2 = c.exchange.new.mirror in let os2 = c.with-self-inside.result.orders in let new = c.exchange.new.writer.place in let w2 = seen_as m2 os2 c.exchange.new.left c.clear.new.self in
    let e = exchanged_edit m m2 os os2 slot c.requires.slot c.self.invariant (shape, (sheet_of new).cells, root_of (seen_by new), c.exchange.ensures.kept) c.exchange.ensures.lists c.args.filter.now c.args.edit (c.with-self-inside.ensures ∙ ap (λ (fs : List StoredFilter). set os slot (exchanged (get_or os slot None) fs c.args.edit)) c.from_ref-one.ensures.value) c.exchange.ensures.list in
    holds_others m m2 os os2 slot (exchanged (get_or os slot None) (c.args.filter.now ∷ []) c.args.edit) e w2 refl w at

pub returns-clause-untouched : goal.returns-clause-untouched
returns-clause-untouched g c = let w = c.args.self.now in let m = c.self.inside.mirror in let os = c.self.inside.told.orders in let at = ap (λ (v : Masks). v.at) (sym c.self.view_is) in let slot = c.args.slot in let old = c.args.writer.now.place in let shape = c.args.store.now.shape in let m2 = c.exchange.new.mirror in let os2 = c.with-self-inside.result.orders in let new = c.exchange.new.writer.place in let w2 = seen_as m2 os2 c.exchange.new.left c.clear.new.self in
    let e = exchanged_edit m m2 os os2 slot c.requires.slot c.self.invariant (shape, (sheet_of new).cells, root_of (seen_by new), c.exchange.ensures.kept) c.exchange.ensures.lists c.args.filter.now c.args.edit (c.with-self-inside.ensures ∙ ap (λ (fs : List StoredFilter). set os slot (exchanged (get_or os slot None) fs c.args.edit)) c.from_ref-one.ensures.value) c.exchange.ensures.list in
    let s = c.requires.there in let here = stands_kept w m os at slot s.0 s.3 in let d = c.exchange.ensures.done s.0 here in let filter = c.args.filter.now in
    let own : BucketAt m (root_for s.0.mask filter) = record { slot = slot; bucket = d.2.bucket; kept = s.0; stands = here; within = d.2.within; same = d.2.is_root } in
    let keeps = named_kept w m os at shape (sheet_of old).cells (root_of (seen_by old)) c.self.invariant c.requires.kept in
    others_stay m m2 os os2 slot (exchanged (get_or os slot None) (c.args.filter.now ∷ []) c.args.edit) e w w2 at refl shape (sheet_of old).cells (sheet_of new).cells (root_of (seen_by old)) (root_of (seen_by new)) keeps c.exchange.ensures.kept
    (one_root m shape (sheet_of old).cells (seen_by old) (seen_by new) slot keeps (replace_at (seen_by old) (root_for s.0.mask filter) c.args.given.now.blocks d.0 filter c.args.edit g.E.EditName.edit) own refl d.3)
    (slots_same m m2 slot c.exchange.ensures.masks)
