use Rattle.std.proofs.Common.{◌∙◌, List, [], ◌∷◌, set, get_or, Some, None, refl, sym, ap, subst, arith, length}
use Rattle.store_history.specs.History.{root_of}
use Rattle.pin_store.specs.Calls.{seen_by, sheet_of}
use Rattle.block_codec.specs.declared.filter.StoredFilter.{StoredFilter}
use Rattle.mask_table.specs.OfMirrors.Lists.{HasFilters}
use Rattle.mask_table.specs.OfMirrors.Linked.{placed}
use Rattle.mask_writer.specs.Masks.{Masks}
use Rattle.mask_writer.specs.Telling.{begun}
use Rattle.mask_writer.proofs.Showing.{seen_as, masks_are, rows_kept, named_kept, named_shown}
use Rattle.mask_writer.proofs.Editing.{told_again, order_after, holds_after, holds_others, begun_edit}
use Rattle.mask_writer.proofs.Untouched.{others_stay, slots_set, raised_roots}
use Rattle.mask_writer.proofs.mask_writer.MaskWriter.create.Goals as goal

pub make_mask-requires-clause-rows : goal.make_mask-requires-clause-rows
make_mask-requires-clause-rows g c = let w = c.args.self.now in let m = c.self.inside.mirror in let os = c.self.inside.told.orders in let at = ap (λ (v : Masks). v.at) (sym c.self.view_is) in let slot = c.args.slot in
    rows_kept w m os at c.args.mask.now.rows c.requires.rows

pub make_mask-requires-clause-kept : goal.make_mask-requires-clause-kept
make_mask-requires-clause-kept g c = let w = c.args.self.now in let m = c.self.inside.mirror in let os = c.self.inside.told.orders in let at = ap (λ (v : Masks). v.at) (sym c.self.view_is) in let slot = c.args.slot in let old = c.args.writer.now.place in let shape = c.args.store.now.shape in
    named_kept w m os at shape (sheet_of old).cells (root_of (seen_by old)) c.self.invariant c.requires.kept

pub invariant_of-self : goal.invariant_of-self
invariant_of-self g c = let w = c.args.self.now in let m = c.self.inside.mirror in let os = c.self.inside.told.orders in let at = ap (λ (v : Masks). v.at) (sym c.self.view_is) in let slot = c.args.slot in let old = c.args.writer.now.place in let shape = c.args.store.now.shape in let m2 = c.make_mask.new.mirror in let os2 = c.with-self-inside.result.orders in let new = c.make_mask.new.writer.place in
    let e = begun_edit m m2 os os2 slot c.requires.slot c.self.invariant (shape, (sheet_of new).cells, root_of (seen_by new), c.make_mask.ensures.kept) c.make_mask.ensures.lists (c.args.filter.now ∷ []) c.args.edit (c.with-self-inside.ensures ∙ ap (λ (fs : List StoredFilter). set os slot (begun (get_or os slot None) fs c.args.edit)) c.from_ref-one.ensures.value) (subst (HasFilters m2 slot c.args.edit) c.from_ref-one.ensures.value c.make_mask.ensures.list) in
    told_again m m2 os os2 slot (begun (get_or os slot None) (c.args.filter.now ∷ []) c.args.edit) e

pub returns-clause-kept : goal.returns-clause-kept
returns-clause-kept g c = let w = c.args.self.now in let m = c.self.inside.mirror in let os = c.self.inside.told.orders in let at = ap (λ (v : Masks). v.at) (sym c.self.view_is) in let slot = c.args.slot in let old = c.args.writer.now.place in let shape = c.args.store.now.shape in let m2 = c.make_mask.new.mirror in let os2 = c.with-self-inside.result.orders in let new = c.make_mask.new.writer.place in let w2 = seen_as m2 os2 c.clear.new.self c.clear-2.new.self in
    named_shown w2 m2 os2 refl shape (sheet_of new).cells (root_of (seen_by new)) c.make_mask.ensures.kept

pub returns-clause-masks : goal.returns-clause-masks
returns-clause-masks g c = let w = c.args.self.now in let m = c.self.inside.mirror in let os = c.self.inside.told.orders in let at = ap (λ (v : Masks). v.at) (sym c.self.view_is) in let slot = c.args.slot in let old = c.args.writer.now.place in let shape = c.args.store.now.shape in let m2 = c.make_mask.new.mirror in let os2 = c.with-self-inside.result.orders in let new = c.make_mask.new.writer.place in let w2 = seen_as m2 os2 c.clear.new.self c.clear-2.new.self in
    masks_are w2 m2 os2 refl ∙ (c.make_mask.ensures.masks
    ∙ (λ t. set (sym (masks_are w m os at) t) slot (Some (record { block = get_or (c.as_slice.ensures t) (length (c.from_ref-one.ensures.value t)) 0; mask = c.args.mask.now }))))

pub returns-clause-order : goal.returns-clause-order
returns-clause-order g c = let w = c.args.self.now in let m = c.self.inside.mirror in let os = c.self.inside.told.orders in let at = ap (λ (v : Masks). v.at) (sym c.self.view_is) in let slot = c.args.slot in let old = c.args.writer.now.place in let shape = c.args.store.now.shape in let m2 = c.make_mask.new.mirror in let os2 = c.with-self-inside.result.orders in let new = c.make_mask.new.writer.place in let w2 = seen_as m2 os2 c.clear.new.self c.clear-2.new.self in
    let e = begun_edit m m2 os os2 slot c.requires.slot c.self.invariant (shape, (sheet_of new).cells, root_of (seen_by new), c.make_mask.ensures.kept) c.make_mask.ensures.lists (c.args.filter.now ∷ []) c.args.edit (c.with-self-inside.ensures ∙ ap (λ (fs : List StoredFilter). set os slot (begun (get_or os slot None) fs c.args.edit)) c.from_ref-one.ensures.value) (subst (HasFilters m2 slot c.args.edit) c.from_ref-one.ensures.value c.make_mask.ensures.list) in
    let has = c.make_mask.ensures.list in order_after m m2 os os2 slot (begun (get_or os slot None) (c.args.filter.now ∷ []) c.args.edit) e w2 refl has.kept has.stands

pub returns-clause-list : goal.returns-clause-list
returns-clause-list g c = let w = c.args.self.now in let m = c.self.inside.mirror in let os = c.self.inside.told.orders in let at = ap (λ (v : Masks). v.at) (sym c.self.view_is) in let slot = c.args.slot in let old = c.args.writer.now.place in let shape = c.args.store.now.shape in let m2 = c.make_mask.new.mirror in let os2 = c.with-self-inside.result.orders in let new = c.make_mask.new.writer.place in let w2 = seen_as m2 os2 c.clear.new.self c.clear-2.new.self in
    let e = begun_edit m m2 os os2 slot c.requires.slot c.self.invariant (shape, (sheet_of new).cells, root_of (seen_by new), c.make_mask.ensures.kept) c.make_mask.ensures.lists (c.args.filter.now ∷ []) c.args.edit (c.with-self-inside.ensures ∙ ap (λ (fs : List StoredFilter). set os slot (begun (get_or os slot None) fs c.args.edit)) c.from_ref-one.ensures.value) (subst (HasFilters m2 slot c.args.edit) c.from_ref-one.ensures.value c.make_mask.ensures.list) in
    holds_after m m2 os os2 slot (begun (get_or os slot None) (c.args.filter.now ∷ []) c.args.edit) e w2 refl c.args.edit (c.args.filter.now ∷ []) (record { filters = (c.args.filter.now ∷ []); newest = c.args.edit }) refl refl (omega arith)

pub returns-clause-lists : goal.returns-clause-lists
returns-clause-lists g c = let w = c.args.self.now in let m = c.self.inside.mirror in let os = c.self.inside.told.orders in let at = ap (λ (v : Masks). v.at) (sym c.self.view_is) in let slot = c.args.slot in let old = c.args.writer.now.place in let shape = c.args.store.now.shape in let m2 = c.make_mask.new.mirror in let os2 = c.with-self-inside.result.orders in let new = c.make_mask.new.writer.place in let w2 = seen_as m2 os2 c.clear.new.self c.clear-2.new.self in
    let e = begun_edit m m2 os os2 slot c.requires.slot c.self.invariant (shape, (sheet_of new).cells, root_of (seen_by new), c.make_mask.ensures.kept) c.make_mask.ensures.lists (c.args.filter.now ∷ []) c.args.edit (c.with-self-inside.ensures ∙ ap (λ (fs : List StoredFilter). set os slot (begun (get_or os slot None) fs c.args.edit)) c.from_ref-one.ensures.value) (subst (HasFilters m2 slot c.args.edit) c.from_ref-one.ensures.value c.make_mask.ensures.list) in
    holds_others m m2 os os2 slot (begun (get_or os slot None) (c.args.filter.now ∷ []) c.args.edit) e w2 refl w at

pub returns-clause-untouched : goal.returns-clause-untouched
returns-clause-untouched g c = let w = c.args.self.now in let m = c.self.inside.mirror in let os = c.self.inside.told.orders in let at = ap (λ (v : Masks). v.at) (sym c.self.view_is) in let slot = c.args.slot in let old = c.args.writer.now.place in let shape = c.args.store.now.shape in let m2 = c.make_mask.new.mirror in let os2 = c.with-self-inside.result.orders in let new = c.make_mask.new.writer.place in let w2 = seen_as m2 os2 c.clear.new.self c.clear-2.new.self in
    let e = begun_edit m m2 os os2 slot c.requires.slot c.self.invariant (shape, (sheet_of new).cells, root_of (seen_by new), c.make_mask.ensures.kept) c.make_mask.ensures.lists (c.args.filter.now ∷ []) c.args.edit (c.with-self-inside.ensures ∙ ap (λ (fs : List StoredFilter). set os slot (begun (get_or os slot None) fs c.args.edit)) c.from_ref-one.ensures.value) (subst (HasFilters m2 slot c.args.edit) c.from_ref-one.ensures.value c.make_mask.ensures.list) in
    let bs = c.as_slice.result.now in let fs = c.from_ref-one.result.now in let b = get_or bs (length fs) 0 in
    let keeps = named_kept w m os at shape (sheet_of old).cells (root_of (seen_by old)) c.self.invariant c.requires.kept in
    others_stay m m2 os os2 slot (begun (get_or os slot None) (c.args.filter.now ∷ []) c.args.edit) e w w2 at refl shape (sheet_of old).cells (sheet_of new).cells (root_of (seen_by old)) (root_of (seen_by new)) keeps c.make_mask.ensures.kept
    (raised_roots m shape (sheet_of old).cells (seen_by old) (seen_by new) slot keeps c.requires.slot c.args.mask.now b (placed bs fs) c.args.edit c.requires.mask (rows_kept w m os at c.args.mask.now.rows c.requires.rows) c.make_mask.ensures.seen)
    (slots_set m m2 slot (Some (record { block = b; mask = c.args.mask.now })) c.make_mask.ensures.masks)
