use Rattle.std.proofs.Common.{◌∙◌, ℕ, ◌+◌, List, [], ◌∷◌, ◌++◌, length, map, take, refl, sym, ap, subst, arith}
use Rattle.store_history.specs.declared.history.Link.{Link}
use Rattle.store_history.specs.declared.history.Commit.{Commit}
use Rattle.store_history.specs.History.{root_of}
use Rattle.store_history.specs.declared.places.TheConstants.{BUCKET_ROOTS}
use Rattle.pin_store.specs.Sheets.{base_of}
use Rattle.pin_store.specs.Calls.{seen_by, sheet_of}
use Rattle.block_codec.specs.declared.filter.StoredFilter.{StoredFilter}
use Rattle.mask_table.specs.Buckets.{bucket_for, IsAmong}
use Rattle.mask_table.specs.declared.mirrors.mirror.KeptMask.{KeptMask}
use Rattle.mask_table.specs.OfMirrors.Changing.{FilterAt, root_for}
use Rattle.mask_table.proofs.OfMirrors.Keeping.{at_root, same_kept}
use Rattle.mask_bucket_edits.proofs.Among.{among_one}
use Rattle.mask_bucket_edits.specs.Finding.{IsFound}
use Rattle.mask_bucket_edits.proofs.Buckets.{front_read, front_is, blocks_left}
use Rattle.mask_bucket_edits.proofs.Chains.{short}
use Rattle.mask_bucket_edits.proofs.Changing.{same_commit}
use Rattle.mask_bucket_edits.proofs.editing.exchange.Goals as goal

pub place_in-place-requires-clause-storable : goal.place_in-place-requires-clause-storable
place_in-place-requires-clause-storable g c = λ kept stands.
    (c.requires.kept.masks c.args.slot kept stands).there.storable

pub find_in-front-requires-clause-there : goal.find_in-front-requires-clause-there
find_in-front-requires-clause-there g c =
    let h = seen_by c.args.writer.now.place in let old = sheet_of c.args.writer.now.place in let shape = c.args.store.now.shape in let place = c.place_in-place.result in let w = c.requires.there in
    let filter = c.args.filter.now in let handle = filter.handle in
    let root = ap (λ (p : ℕ). BUCKET_ROOTS + p) (c.place_in-place.ensures.place w.0 w.3) ∙ sym (at_root w.0.mask (bucket_for w.0.mask.size filter.key.words)) in
    let at = subst (λ (r : ℕ). FilterAt (root_of h) w.0.mask handle r w.1 w.2) (sym root) w.4 in
    (c.args.slot, w.0, shape, old.cells, root_of h, w.1, w.2, w.3, c.requires.kept, at)

pub rewrite-requires-clause-found : goal.rewrite-requires-clause-found
rewrite-requires-clause-found g c =
    let h = seen_by c.args.writer.now.place in let old = sheet_of c.args.writer.now.place in let shape = c.args.store.now.shape in let place = c.place_in-place.result in let count = c.find_in-front.result in let w = c.requires.there in
    let filter = c.args.filter.now in let handle = filter.handle in
    let root = ap (λ (p : ℕ). BUCKET_ROOTS + p) (c.place_in-place.ensures.place w.0 w.3) ∙ sym (at_root w.0.mask (bucket_for w.0.mask.size filter.key.words)) in
    let at = subst (λ (r : ℕ). FilterAt (root_of h) w.0.mask handle r w.1 w.2) (sym root) w.4 in
    let f = c.find_in-front.ensures.found c.args.slot w.0 shape old.cells (root_of h) w.1 w.2 w.3 c.requires.kept at in
    let here = subst (IsFound (root_of h) w.0.mask handle place count) (sym c.as_slice.ensures) f in
    (c.args.slot, handle, w.0, w.3, here, λ x i. root ∙ ap (root_for w.0.mask) (among_one x filter i.0 i.1))

pub rewrite-requires-clause-many : goal.rewrite-requires-clause-many
rewrite-requires-clause-many g c =
    let h = seen_by c.args.writer.now.place in let old = sheet_of c.args.writer.now.place in let shape = c.args.store.now.shape in let place = c.place_in-place.result in let count = c.find_in-front.result in let w = c.requires.there in
    let filter = c.args.filter.now in let handle = filter.handle in
    let root = ap (λ (p : ℕ). BUCKET_ROOTS + p) (c.place_in-place.ensures.place w.0 w.3) ∙ sym (at_root w.0.mask (bucket_for w.0.mask.size filter.key.words)) in
    let at = subst (λ (r : ℕ). FilterAt (root_of h) w.0.mask handle r w.1 w.2) (sym root) w.4 in
    let f = c.find_in-front.ensures.found c.args.slot w.0 shape old.cells (root_of h) w.1 w.2 w.3 c.requires.kept at in
    let there = subst (λ (r : ℕ). FilterAt (root_of h) w.0.mask handle r f.front f.filter) root f.there in
    let many = c.requires.many w.0 f.front f.filter w.3 there in let same = ap length c.as_slice-2.ensures in let counted = f.counted in omega arith

pub rewrite-requires-clause-lawful : goal.rewrite-requires-clause-lawful
rewrite-requires-clause-lawful g c = λ front read.
    let h = seen_by c.args.writer.now.place in let old = sheet_of c.args.writer.now.place in let shape = c.args.store.now.shape in let place = c.place_in-place.result in let count = c.find_in-front.result in let w = c.requires.there in
    let filter = c.args.filter.now in let handle = filter.handle in
    let root = ap (λ (p : ℕ). BUCKET_ROOTS + p) (c.place_in-place.ensures.place w.0 w.3) ∙ sym (at_root w.0.mask (bucket_for w.0.mask.size filter.key.words)) in
    let at = subst (λ (r : ℕ). FilterAt (root_of h) w.0.mask handle r w.1 w.2) (sym root) w.4 in
    let f = c.find_in-front.ensures.found c.args.slot w.0 shape old.cells (root_of h) w.1 w.2 w.3 c.requires.kept at in
    let there = subst (λ (r : ℕ). FilterAt (root_of h) w.0.mask handle r f.front f.filter) root f.there in
    let same = front_is (root_of h) w.0.mask handle place count c.find_in-front.new.room f front read in
    let one = same_commit h (BUCKET_ROOTS + place) (root_for w.0.mask filter) c.as_slice-2.result.now c.args.given.now (front ++ filter ∷ []) (f.front ++ filter ∷ []) count (length f.front) c.args.edit g.E.EditName.edit
    root c.as_slice-2.ensures (ap (λ (fs : List StoredFilter). fs ++ filter ∷ []) same) (sym f.counted) in
    subst (λ (k : Commit g.row.L-Entry.Denot). g.L.Law.keeps (h ++ k ∷ []) (base_of old)) (sym one) (c.requires.lawful w.0 f.front f.filter w.3 there)

pub overflow_add-front : goal.overflow_add-front
overflow_add-front g c =
    let h = seen_by c.args.writer.now.place in let old = sheet_of c.args.writer.now.place in let shape = c.args.store.now.shape in let place = c.place_in-place.result in let count = c.find_in-front.result in let w = c.requires.there in
    let filter = c.args.filter.now in let handle = filter.handle in
    let root = ap (λ (p : ℕ). BUCKET_ROOTS + p) (c.place_in-place.ensures.place w.0 w.3) ∙ sym (at_root w.0.mask (bucket_for w.0.mask.size filter.key.words)) in
    let at = subst (λ (r : ℕ). FilterAt (root_of h) w.0.mask handle r w.1 w.2) (sym root) w.4 in
    let f = c.find_in-front.ensures.found c.args.slot w.0 shape old.cells (root_of h) w.1 w.2 w.3 c.requires.kept at in
    let small = short c.args.mirror.now shape old.cells (root_of h) c.args.slot w.0 w.3 c.requires.kept handle place count c.find_in-front.new.room f in omega arith

pub returns-clause-done : goal.returns-clause-done
returns-clause-done g c = λ kept stands.
    let h = seen_by c.args.writer.now.place in let old = sheet_of c.args.writer.now.place in let shape = c.args.store.now.shape in let place = c.place_in-place.result in let count = c.find_in-front.result in let w = c.requires.there in
    let filter = c.args.filter.now in let handle = filter.handle in
    let root = ap (λ (p : ℕ). BUCKET_ROOTS + p) (c.place_in-place.ensures.place kept stands) ∙ sym (at_root kept.mask (bucket_for kept.mask.size filter.key.words)) in
    let same = same_kept c.args.mirror.now c.args.slot c.args.slot w.0 kept refl w.3 stands in
    let at = subst (λ (r : ℕ). FilterAt (root_of h) kept.mask handle r w.1 w.2) (sym root) (subst (λ (m : KeptMask). FilterAt (root_of h) m.mask handle (root_for m.mask filter) w.1 w.2) same w.4) in
    let f = c.find_in-front.ensures.found c.args.slot kept shape old.cells (root_of h) w.1 w.2 stands c.requires.kept at in
    let seen = c.rewrite.ensures.seen f.front (front_read (root_of h) kept.mask handle place count c.find_in-front.new.room f) in
    let one = same_commit h (BUCKET_ROOTS + place) (root_for kept.mask filter) c.as_slice-2.result.now c.args.given.now (f.front ++ filter ∷ []) (f.front ++ filter ∷ []) count (length f.front) c.args.edit g.E.EditName.edit
    root c.as_slice-2.ensures refl (sym f.counted) in
    let left = blocks_left (root_of h) kept.mask handle place count c.find_in-front.new.room f c.truncate.new.self c.truncate.ensures in (
      f.front,
      f.filter,
      subst (λ (r : ℕ). FilterAt (root_of h) kept.mask handle r f.front f.filter) root f.there,
      seen ∙ ap (λ (k : Commit g.row.L-Entry.Denot). h ++ k ∷ []) one,
      left ∙ ap (λ (r : ℕ). map (λ (l : Link). l.block) (take (length f.front + 1) (root_of h r).chain)) root,
    )

pub returns-clause-others : goal.returns-clause-others
returns-clause-others g c = λ other out less.
    c.rewrite.ensures.others other (λ i. out (subst (IsAmong other) c.as_slice-2.ensures i)) less

pub returns-clause-list : goal.returns-clause-list
returns-clause-list g c = λ last earlier gone later has named keys none.
    let h = seen_by c.args.writer.now.place in let old = sheet_of c.args.writer.now.place in let shape = c.args.store.now.shape in let place = c.place_in-place.result in let count = c.find_in-front.result in let w = c.requires.there in
    let filter = c.args.filter.now in let handle = filter.handle in
    let root = ap (λ (p : ℕ). BUCKET_ROOTS + p) (c.place_in-place.ensures.place w.0 w.3) ∙ sym (at_root w.0.mask (bucket_for w.0.mask.size filter.key.words)) in
    let at = subst (λ (r : ℕ). FilterAt (root_of h) w.0.mask handle r w.1 w.2) (sym root) w.4 in
    let f = c.find_in-front.ensures.found c.args.slot w.0 shape old.cells (root_of h) w.1 w.2 w.3 c.requires.kept at in
    let here = subst (IsFound (root_of h) w.0.mask handle place count) (sym c.as_slice.ensures) f in
    c.rewrite.ensures.list c.args.slot handle last w.0 earlier gone later w.3 here has named
    (λ x i. ap (λ (y : StoredFilter). y.key.words) (sym (among_one x filter i.0 i.1)) ∙ sym keys) none

pub returns-clause-lists : goal.returns-clause-lists
returns-clause-lists g c = λ other last fs apart has.
    let h = seen_by c.args.writer.now.place in let old = sheet_of c.args.writer.now.place in let shape = c.args.store.now.shape in let place = c.place_in-place.result in let count = c.find_in-front.result in let w = c.requires.there in
    let filter = c.args.filter.now in let handle = filter.handle in
    let root = ap (λ (p : ℕ). BUCKET_ROOTS + p) (c.place_in-place.ensures.place w.0 w.3) ∙ sym (at_root w.0.mask (bucket_for w.0.mask.size filter.key.words)) in
    let at = subst (λ (r : ℕ). FilterAt (root_of h) w.0.mask handle r w.1 w.2) (sym root) w.4 in
    let f = c.find_in-front.ensures.found c.args.slot w.0 shape old.cells (root_of h) w.1 w.2 w.3 c.requires.kept at in
    let here = subst (IsFound (root_of h) w.0.mask handle place count) (sym c.as_slice.ensures) f in
    c.rewrite.ensures.lists c.args.slot handle w.0 w.3 here other last fs apart has
