use Rattle.std.proofs.Common.{◌≡◌, ◌∙◌, ℕ, ◌+◌, ◌<◌, List, [], ◌∷◌, ◌++◌, length, get_or, Some, refl, sym, ap, subst, arith}
use Rattle.std.proofs.lemmas.List.{get_or_default}
use Rattle.store_history.specs.declared.history.Commit.{Commit}
use Rattle.store_history.specs.History.{root_of}
use Rattle.store_history.specs.declared.places.TheConstants.{BUCKET_ROOTS}
use Rattle.pin_store.specs.Layout.{commit_of}
use Rattle.pin_store.specs.Sheets.{base_of}
use Rattle.pin_store.specs.Calls.{seen_by, sheet_of, IsUnnamed}
use Rattle.pin_store.proofs.Sound.{base_low}
use Rattle.mask_table.specs.OfMirrors.Kept.{HoldsChain, BucketAt, IsKept, AreOwn}
use Rattle.mask_table.specs.OfMirrors.Changing.{root_for, insert_at}
use Rattle.mask_table.proofs.OfMirrors.Keeping.{same_base, same_kept, unnamed_now}
use Rattle.mask_writer.proofs.Inserting.{chain_ready, commit_is, others_have, mask_has}
use Rattle.mask_writer.proofs.adding.insert_filter.Goals as goal

pub place_in-place-requires-clause-storable : goal.place_in-place-requires-clause-storable
place_in-place-requires-clause-storable g c = λ kept stands. (c.requires.kept.masks c.args.slot kept stands).there.storable

pub put_in_front-requires-clause-free : goal.put_in_front-requires-clause-free
put_in_front-requires-clause-free g c = subst (IsUnnamed (base_of (sheet_of c.args.writer.now.place)) (seen_by c.args.writer.now.place)) (ap (λ (bs : List ℕ). get_or bs 0 0) (sym c.as_slice.ensures)) c.requires.free

pub rename-requires-clause-chain : goal.rename-requires-clause-chain
rename-requires-clause-chain g c =
    let mirror = c.args.mirror.now in let shape = c.args.store.now.shape in let h = seen_by c.args.writer.now.place in let old = sheet_of c.args.writer.now.place in
    let b = get_or c.as_slice.result.now 0 0 in let given : get_or c.args.given.now.blocks 0 0 ≡ b = ap (λ (bs : List ℕ). get_or bs 0 0) (sym c.as_slice.ensures) in
    let kept = c.requires.stands.0 in let stands = c.requires.stands.1 in let filter = c.args.filter.now in
    let free = unnamed_now (base_of old) h b (base_low old c.args.writer.now.sound) (subst (IsUnnamed (base_of old) h) given c.requires.free) in
    let place = c.place_in-place.result in let next = c.index-next.result.now in let at = c.place_in-place.ensures.place kept stands in
    let inside : place < length mirror.first.items = (let long = mirror.first_long in let small = c.place_in-place.ensures.small in omega arith) in
    let was = c.index-next.ensures ∙ get_or_default mirror.first.items place next 0 inside in
    let p = c.put_in_front.ensures in let mirror2 = c.put_in_front.new.mirror in let new = sheet_of c.put_in_front.new.writer.place in
    subst (λ (more : List (Commit g.row.L-Entry.Denot)). (own : BucketAt mirror2 (BUCKET_ROOTS + place)) × (blocks : List ℕ) × HoldsChain mirror2 shape new.cells own.kept.mask.size own.bucket (b + 1) blocks
    × AreOwn mirror2 (root_of more) (BUCKET_ROOTS + place) blocks) (sym p.seen)
    (chain_ready mirror mirror2 shape old.cells new.cells h c.args.slot b kept filter place next c.requires.kept stands free at was p.filled p.chain)

pub rename-requires-clause-lawful : goal.rename-requires-clause-lawful
rename-requires-clause-lawful g c = λ blocks s.
    let mirror = c.args.mirror.now in let shape = c.args.store.now.shape in let h = seen_by c.args.writer.now.place in let old = sheet_of c.args.writer.now.place in
    let b = get_or c.as_slice.result.now 0 0 in let given : get_or c.args.given.now.blocks 0 0 ≡ b = ap (λ (bs : List ℕ). get_or bs 0 0) (sym c.as_slice.ensures) in
    let kept = c.requires.stands.0 in let stands = c.requires.stands.1 in let filter = c.args.filter.now in
    let free = unnamed_now (base_of old) h b (base_low old c.args.writer.now.sound) (subst (IsUnnamed (base_of old) h) given c.requires.free) in
    let place = c.place_in-place.result in let next = c.index-next.result.now in let at = c.place_in-place.ensures.place kept stands in
    let inside : place < length mirror.first.items = (let long = mirror.first_long in let small = c.place_in-place.ensures.small in omega arith) in
    let was = c.index-next.ensures ∙ get_or_default mirror.first.items place next 0 inside in
    let p = c.put_in_front.ensures in let mirror2 = c.put_in_front.new.mirror in let new = sheet_of c.put_in_front.new.writer.place in
    let one = commit_is mirror mirror2 shape old.cells new.cells h c.args.slot b kept filter place next c.requires.kept stands free at was p.filled p.words p.chain blocks s c.args.edit g.E.EditName.edit ∙ ap (λ (k : ℕ). insert_at h (root_for kept.mask filter) k filter c.args.edit g.E.EditName.edit) (sym given) in
    subst (g.L.Law.keeps (seen_by c.put_in_front.new.writer.place ++ commit_of shape new.cells (BUCKET_ROOTS + place) blocks c.args.edit (Some c.args.edit) g.E.EditName.edit ∷ [])) (sym (same_base old new p.sheet))
    (subst (λ (k : List (Commit g.row.L-Entry.Denot)). g.L.Law.keeps k (base_of old)) (λ t. sym p.seen t ++ sym one t ∷ []) (c.requires.lawful kept stands))

pub returns-clause-seen : goal.returns-clause-seen
returns-clause-seen g c = λ more there.
    let mirror = c.args.mirror.now in let shape = c.args.store.now.shape in let h = seen_by c.args.writer.now.place in let old = sheet_of c.args.writer.now.place in
    let b = get_or c.as_slice.result.now 0 0 in let given : get_or c.args.given.now.blocks 0 0 ≡ b = ap (λ (bs : List ℕ). get_or bs 0 0) (sym c.as_slice.ensures) in
    let kept = c.requires.stands.0 in let stands = c.requires.stands.1 in let filter = c.args.filter.now in
    let free = unnamed_now (base_of old) h b (base_low old c.args.writer.now.sound) (subst (IsUnnamed (base_of old) h) given c.requires.free) in
    let place = c.place_in-place.result in let next = c.index-next.result.now in let at = c.place_in-place.ensures.place kept stands in
    let inside : place < length mirror.first.items = (let long = mirror.first_long in let small = c.place_in-place.ensures.small in omega arith) in
    let was = c.index-next.ensures ∙ get_or_default mirror.first.items place next 0 inside in
    let p = c.put_in_front.ensures in let mirror2 = c.put_in_front.new.mirror in let new = sheet_of c.put_in_front.new.writer.place in
    let chain = chain_ready mirror mirror2 shape old.cells new.cells h c.args.slot b kept filter place next c.requires.kept stands free at was p.filled p.chain in
    let same = same_kept mirror c.args.slot c.args.slot kept more refl stands there in
    let one = commit_is mirror mirror2 shape old.cells new.cells h c.args.slot b kept filter place next c.requires.kept stands free at was p.filled p.words p.chain chain.1 chain.2.spelled c.args.edit g.E.EditName.edit ∙ (λ t. insert_at h (root_for (same t).mask filter) (sym given t) filter c.args.edit g.E.EditName.edit) in
    c.rename.ensures.seen chain.1 chain.2.spelled ∙ (λ t. p.seen t ++ one t ∷ [])

pub returns-clause-list : goal.returns-clause-list
returns-clause-list g c = λ last fs has later.
    let mirror = c.args.mirror.now in let shape = c.args.store.now.shape in let h = seen_by c.args.writer.now.place in let old = sheet_of c.args.writer.now.place in
    let b = get_or c.as_slice.result.now 0 0 in let given : get_or c.args.given.now.blocks 0 0 ≡ b = ap (λ (bs : List ℕ). get_or bs 0 0) (sym c.as_slice.ensures) in
    let kept = c.requires.stands.0 in let stands = c.requires.stands.1 in let filter = c.args.filter.now in
    let free = unnamed_now (base_of old) h b (base_low old c.args.writer.now.sound) (subst (IsUnnamed (base_of old) h) given c.requires.free) in
    let place = c.place_in-place.result in let next = c.index-next.result.now in let at = c.place_in-place.ensures.place kept stands in
    let inside : place < length mirror.first.items = (let long = mirror.first_long in let small = c.place_in-place.ensures.small in omega arith) in
    let was = c.index-next.ensures ∙ get_or_default mirror.first.items place next 0 inside in
    let p = c.put_in_front.ensures in let mirror2 = c.put_in_front.new.mirror in let new = sheet_of c.put_in_front.new.writer.place in
    let keeps2 = subst (λ (more : List (Commit g.row.L-Entry.Denot)). IsKept mirror2 shape new.cells (root_of more)) p.seen p.kept in
    mask_has mirror mirror2 shape old.cells new.cells h c.args.slot b kept filter place next c.requires.kept stands free at was p.filled c.first_age.result c.args.edit
    c.rename.new.mirror c.rename.ensures.renamed keeps2 c.place_in-place.ensures.small p.dated c.first_age.ensures p.lists p.chain last fs has later

pub returns-clause-lists : goal.returns-clause-lists
returns-clause-lists g c = λ other last fs away has.
    let mirror = c.args.mirror.now in let shape = c.args.store.now.shape in let h = seen_by c.args.writer.now.place in let old = sheet_of c.args.writer.now.place in
    let b = get_or c.as_slice.result.now 0 0 in let given : get_or c.args.given.now.blocks 0 0 ≡ b = ap (λ (bs : List ℕ). get_or bs 0 0) (sym c.as_slice.ensures) in
    let kept = c.requires.stands.0 in let stands = c.requires.stands.1 in let filter = c.args.filter.now in
    let free = unnamed_now (base_of old) h b (base_low old c.args.writer.now.sound) (subst (IsUnnamed (base_of old) h) given c.requires.free) in
    let place = c.place_in-place.result in let next = c.index-next.result.now in let at = c.place_in-place.ensures.place kept stands in
    let inside : place < length mirror.first.items = (let long = mirror.first_long in let small = c.place_in-place.ensures.small in omega arith) in
    let was = c.index-next.ensures ∙ get_or_default mirror.first.items place next 0 inside in
    let p = c.put_in_front.ensures in let mirror2 = c.put_in_front.new.mirror in let new = sheet_of c.put_in_front.new.writer.place in
    let keeps2 = subst (λ (more : List (Commit g.row.L-Entry.Denot)). IsKept mirror2 shape new.cells (root_of more)) p.seen p.kept in
    others_have mirror mirror2 shape old.cells new.cells h c.args.slot b kept filter place next c.requires.kept stands free at was p.filled c.first_age.result c.args.edit
    c.rename.new.mirror c.rename.ensures.renamed keeps2 c.place_in-place.ensures.small p.dated c.first_age.ensures p.lists other last fs away has
