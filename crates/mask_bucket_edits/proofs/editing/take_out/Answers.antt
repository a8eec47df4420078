use mathlib.Core.List.{append-nil}
use Rattle.std.proofs.Common.{◌∙◌, ◌+◌, [], ◌∷◌, ◌++◌, length, refl, sym, ap, subst, arith}
use Rattle.store_history.specs.declared.history.Commit.{Commit}
use Rattle.store_history.specs.History.{root_of}
use Rattle.store_history.specs.declared.places.TheConstants.{BUCKET_ROOTS}
use Rattle.pin_store.specs.Sheets.{base_of}
use Rattle.pin_store.specs.Calls.{seen_by, sheet_of}
use Rattle.mask_table.specs.Buckets.{IsAmong}
use Rattle.mask_bucket_edits.specs.Finding.{IsFound}
use Rattle.mask_bucket_edits.proofs.Buckets.{front_read, front_is, blocks_left}
use Rattle.mask_bucket_edits.proofs.Chains.{short}
use Rattle.mask_bucket_edits.proofs.Changing.{same_commit}
use Rattle.mask_bucket_edits.proofs.editing.take_out.Goals as goal

pub rewrite-requires-clause-found : goal.rewrite-requires-clause-found
rewrite-requires-clause-found g c =
    let h = seen_by c.args.writer.now.place in let old = sheet_of c.args.writer.now.place in let shape = c.args.store.now.shape in let found = c.find-found.result in let w = c.requires.there in
    let f = c.find-found.ensures.found w.0 shape old.cells (root_of h) w.4 c.requires.kept in
    let here = subst (IsFound (root_of h) w.0.mask c.args.handle found.place found.front) (sym c.as_slice.ensures) f in
    (c.args.slot, c.args.handle, w.0, w.4, here, λ filter i. absurd (let e = i.1 in cc e))

pub rewrite-requires-clause-many : goal.rewrite-requires-clause-many
rewrite-requires-clause-many g c =
    let h = seen_by c.args.writer.now.place in let old = sheet_of c.args.writer.now.place in let shape = c.args.store.now.shape in let found = c.find-found.result in let w = c.requires.there in
    let f = c.find-found.ensures.found w.0 shape old.cells (root_of h) w.4 c.requires.kept in
    let many = c.requires.many w.0 (BUCKET_ROOTS + found.place) f.front f.filter w.4 f.there in let same = ap length c.as_slice-2.ensures in let count = f.counted in omega arith

pub rewrite-requires-clause-lawful : goal.rewrite-requires-clause-lawful
rewrite-requires-clause-lawful g c = λ front read.
    let h = seen_by c.args.writer.now.place in let old = sheet_of c.args.writer.now.place in let shape = c.args.store.now.shape in let found = c.find-found.result in let w = c.requires.there in
    let f = c.find-found.ensures.found w.0 shape old.cells (root_of h) w.4 c.requires.kept in
    let same = front_is (root_of h) w.0.mask c.args.handle found.place found.front c.find-found.new.room f front read in
    let one = same_commit h (BUCKET_ROOTS + found.place) (BUCKET_ROOTS + found.place) c.as_slice-2.result.now c.args.given.now (front ++ []) f.front found.front (length f.front) c.args.edit g.E.EditName.edit refl c.as_slice-2.ensures (append-nil front ∙ same) (sym f.counted) in
    subst (λ (k : Commit g.row.L-Entry.Denot). g.L.Law.keeps (h ++ k ∷ []) (base_of old)) (sym one) (c.requires.lawful w.0 (BUCKET_ROOTS + found.place) f.front f.filter w.4 f.there)

pub overflow_add-found : goal.overflow_add-found
overflow_add-found g c =
    let h = seen_by c.args.writer.now.place in let old = sheet_of c.args.writer.now.place in let shape = c.args.store.now.shape in let found = c.find-found.result in let w = c.requires.there in
    let f = c.find-found.ensures.found w.0 shape old.cells (root_of h) w.4 c.requires.kept in
    let small = short c.args.mirror.now shape old.cells (root_of h) c.args.slot w.0 w.4 c.requires.kept c.args.handle found.place found.front c.find-found.new.room f in omega arith

pub returns-clause-done : goal.returns-clause-done
returns-clause-done g c = λ kept stands.
    let h = seen_by c.args.writer.now.place in let old = sheet_of c.args.writer.now.place in let shape = c.args.store.now.shape in let found = c.find-found.result in
    let f = c.find-found.ensures.found kept shape old.cells (root_of h) stands c.requires.kept in
    let seen = c.rewrite.ensures.seen f.front (front_read (root_of h) kept.mask c.args.handle found.place found.front c.find-found.new.room f) in
    let one = same_commit h (BUCKET_ROOTS + found.place) (BUCKET_ROOTS + found.place) c.as_slice-2.result.now c.args.given.now (f.front ++ []) f.front found.front (length f.front) c.args.edit g.E.EditName.edit refl c.as_slice-2.ensures (append-nil f.front) (sym f.counted) in
    (BUCKET_ROOTS + found.place, f.front, f.filter, f.there, seen ∙ ap (λ (k : Commit g.row.L-Entry.Denot). h ++ k ∷ []) one, blocks_left (root_of h) kept.mask c.args.handle found.place found.front c.find-found.new.room f c.truncate.new.self c.truncate.ensures)

pub returns-clause-others : goal.returns-clause-others
returns-clause-others g c = λ other out less.
    c.rewrite.ensures.others other (λ i. out (subst (IsAmong other) c.as_slice-2.ensures i)) less

pub returns-clause-list : goal.returns-clause-list
returns-clause-list g c = λ last earlier filter later has named none.
    let h = seen_by c.args.writer.now.place in let old = sheet_of c.args.writer.now.place in let shape = c.args.store.now.shape in let found = c.find-found.result in let w = c.requires.there in
    let f = c.find-found.ensures.found w.0 shape old.cells (root_of h) w.4 c.requires.kept in
    let here = subst (IsFound (root_of h) w.0.mask c.args.handle found.place found.front) (sym c.as_slice.ensures) f in
    c.rewrite.ensures.list c.args.slot c.args.handle last w.0 earlier filter later w.4 here has named (λ x i. absurd (let e = i.1 in cc e)) none

pub returns-clause-lists : goal.returns-clause-lists
returns-clause-lists g c = λ other last fs apart has.
    let h = seen_by c.args.writer.now.place in let old = sheet_of c.args.writer.now.place in let shape = c.args.store.now.shape in let found = c.find-found.result in let w = c.requires.there in
    let f = c.find-found.ensures.found w.0 shape old.cells (root_of h) w.4 c.requires.kept in
    let here = subst (IsFound (root_of h) w.0.mask c.args.handle found.place found.front) (sym c.as_slice.ensures) f in
    c.rewrite.ensures.lists c.args.slot c.args.handle w.0 w.4 here other last fs apart has
