use Rattle.std.proofs.Common.{◌∙◌, ℕ, ◌+◌, ◌<◌, List, [], ◌∷◌, ◌++◌, length, map, take, get_or, Some, sym, ap, subst, arith}
use Rattle.std.proofs.lemmas.List.{get_or_default, length-take-le}
use Rattle.store_history.specs.declared.history.Commit.{Commit}
use Rattle.store_history.specs.History.{root_of}
use Rattle.store_history.specs.declared.places.TheConstants.{BUCKET_ROOTS}
use Rattle.pin_store.specs.declared.view.Sheet.{Sheet}
use Rattle.pin_store.specs.Layout.{block_words, commit_of}
use Rattle.pin_store.specs.Sheets.{base_of}
use Rattle.pin_store.specs.Calls.{seen_by, sheet_of}
use Rattle.pin_store.proofs.Sound.{base_low, base_same}
use Rattle.block_codec.specs.declared.filter.StoredFilter.{StoredFilter}
use Rattle.mask_table.specs.Buckets.{IsAmong}
use Rattle.mask_table.specs.OfMirrors.Kept.{HoldsChain, BucketAt, AreOwn}
use Rattle.mask_table.specs.OfMirrors.Lists.{kept_in}
use Rattle.mask_table.proofs.OfMirrors.Keeping.{unnamed_now}
use Rattle.mask_bucket_edits.specs.Putting.{listed, aged, ArePut}
use Rattle.mask_bucket_edits.proofs.Among.{among_take}
use Rattle.mask_bucket_edits.proofs.Buckets.{front_read}
use Rattle.mask_bucket_edits.proofs.Chains.{names, low, has, within, there, in_bucket}
use Rattle.mask_bucket_edits.proofs.Changing.{listed_few, commit_is, chain_ready, links_new, lists_stay, list_changed}
use Rattle.mask_bucket_edits.proofs.rewriting.rewrite.Goals as goal

pub index-age-requires : goal.index-age-requires
index-age-requires g c =
    let mirror = c.args.mirror.now in let shape = c.args.store.now.shape in let h = seen_by c.args.writer.now.place in let old = sheet_of c.args.writer.now.place in let blocks = c.args.blocks.now in let count = c.args.found.front in
    let place = c.args.found.place in let given = c.args.given.now in let w = c.requires.found in let b = get_or blocks count 0 in
    let small = low mirror shape old.cells (root_of h) w.0 w.2 w.3 c.requires.kept w.1 place count blocks w.4 count b (there mirror shape old.cells (root_of h) w.0 w.2 w.3 c.requires.kept w.1 place count blocks w.4) in
    let long = mirror.ages_long in omega arith

pub index-behind-requires : goal.index-behind-requires
index-behind-requires g c =
    let mirror = c.args.mirror.now in let shape = c.args.store.now.shape in let h = seen_by c.args.writer.now.place in let old = sheet_of c.args.writer.now.place in let blocks = c.args.blocks.now in let count = c.args.found.front in
    let place = c.args.found.place in let given = c.args.given.now in let w = c.requires.found in let b = get_or blocks count 0 in
    let small = low mirror shape old.cells (root_of h) w.0 w.2 w.3 c.requires.kept w.1 place count blocks w.4 count b (there mirror shape old.cells (root_of h) w.0 w.2 w.3 c.requires.kept w.1 place count blocks w.4) in
    let long = mirror.next_long in omega arith

pub slice_bounds-front-end : goal.slice_bounds-front-end
slice_bounds-front-end g c =
    let mirror = c.args.mirror.now in let shape = c.args.store.now.shape in let h = seen_by c.args.writer.now.place in let old = sheet_of c.args.writer.now.place in let blocks = c.args.blocks.now in let count = c.args.found.front in
    let place = c.args.found.place in let given = c.args.given.now in let w = c.requires.found in let b = get_or blocks count 0 in
    let inside = within mirror shape old.cells (root_of h) w.0 w.2 w.3 c.requires.kept w.1 place count blocks w.4 in sym (length-take-le count blocks (omega arith))

pub put_edited-number-requires-clause-long : goal.put_edited-number-requires-clause-long
put_edited-number-requires-clause-long g c =
    let mirror = c.args.mirror.now in let shape = c.args.store.now.shape in let h = seen_by c.args.writer.now.place in let old = sheet_of c.args.writer.now.place in let blocks = c.args.blocks.now in let count = c.args.found.front in
    let place = c.args.found.place in let given = c.args.given.now in let w = c.requires.found in let b = get_or blocks count 0 in
    let inside = within mirror shape old.cells (root_of h) w.0 w.2 w.3 c.requires.kept w.1 place count blocks w.4 in let short = length-take-le count blocks (omega arith) in let many = c.requires.many in omega arith

pub put_edited-number-requires-clause-from : goal.put_edited-number-requires-clause-from
put_edited-number-requires-clause-from g c = λ k x e.
    let mirror = c.args.mirror.now in let shape = c.args.store.now.shape in let h = seen_by c.args.writer.now.place in let old = sheet_of c.args.writer.now.place in let blocks = c.args.blocks.now in let count = c.args.found.front in
    let place = c.args.found.place in let given = c.args.given.now in let w = c.requires.found in let b = get_or blocks count 0 in
    has mirror shape old.cells (root_of h) w.0 w.2 w.3 c.requires.kept w.1 place count blocks w.4 k x (among_take x count blocks k e)

pub put_edited-number-requires-clause-apart : goal.put_edited-number-requires-clause-apart
put_edited-number-requires-clause-apart g c = λ x i j.
    let mirror = c.args.mirror.now in let shape = c.args.store.now.shape in let h = seen_by c.args.writer.now.place in let old = sheet_of c.args.writer.now.place in let blocks = c.args.blocks.now in let count = c.args.found.front in
    let place = c.args.found.place in let given = c.args.given.now in let w = c.requires.found in let b = get_or blocks count 0 in
    unnamed_now (base_of old) h x (base_low old c.args.writer.now.sound) (c.requires.given.free j.0 x j.1) (BUCKET_ROOTS + place) (names mirror shape old.cells (root_of h) w.0 w.2 w.3 c.requires.kept w.1 place count blocks w.4 i.0 x (among_take x count blocks i.0 i.1))

pub rename-requires-clause-chain : goal.rename-requires-clause-chain
rename-requires-clause-chain g c =
    let mirror = c.args.mirror.now in let shape = c.args.store.now.shape in let h = seen_by c.args.writer.now.place in let old = sheet_of c.args.writer.now.place in let blocks = c.args.blocks.now in let count = c.args.found.front in
    let place = c.args.found.place in let given = c.args.given.now in let w = c.requires.found in let b = get_or blocks count 0 in
    let small = low mirror shape old.cells (root_of h) w.0 w.2 w.3 c.requires.kept w.1 place count blocks w.4 count b (there mirror shape old.cells (root_of h) w.0 w.2 w.3 c.requires.kept w.1 place count blocks w.4) in
    let inside : b < length mirror.next.items = (let long = mirror.next_long in omega arith) in let is = c.index-behind.ensures ∙ get_or_default mirror.next.items b c.index-behind.result.now 0 inside in
    let p = c.put_edited-number.ensures in let mirror1 = c.put_edited-number.new.mirror in let new = sheet_of c.put_edited-number.new.writer.place in let number = c.put_edited-number.result in let age = c.index-age.result.now in let more = listed c.args.with in
    let put = subst (λ (n : ℕ). ArePut mirror mirror1 shape old.cells new.cells given (map (kept_in mirror) (take count blocks) ++ aged age more) n number) is p.put in
    let free = λ (x : ℕ) (i : IsAmong x given). unnamed_now (base_of old) h x (base_low old c.args.writer.now.sound) (c.requires.given.free i.0 x i.1) in
    let of = λ (f : StoredFilter) (i : IsAmong f more). in_bucket mirror shape old.cells (root_of h) w.0 w.2 w.3 c.requires.kept w.1 place count blocks w.4 f (w.5 f i) in
    subst (λ (seen : List (Commit g.row.L-Entry.Denot)). (own : BucketAt mirror1 (BUCKET_ROOTS + place)) × (bs : List ℕ) × HoldsChain mirror1 shape new.cells own.kept.mask.size own.bucket number bs
    × AreOwn mirror1 (root_of seen) (BUCKET_ROOTS + place) bs) (sym p.seen)
    (chain_ready mirror mirror1 shape old.cells new.cells (root_of h) w.0 w.2 w.3 c.requires.kept w.1 place count blocks w.4 given more age number free put of)

pub rename-requires-clause-lawful : goal.rename-requires-clause-lawful
rename-requires-clause-lawful g c = λ bs s.
    let mirror = c.args.mirror.now in let shape = c.args.store.now.shape in let h = seen_by c.args.writer.now.place in let old = sheet_of c.args.writer.now.place in let blocks = c.args.blocks.now in let count = c.args.found.front in
    let place = c.args.found.place in let given = c.args.given.now in let w = c.requires.found in let b = get_or blocks count 0 in
    let small = low mirror shape old.cells (root_of h) w.0 w.2 w.3 c.requires.kept w.1 place count blocks w.4 count b (there mirror shape old.cells (root_of h) w.0 w.2 w.3 c.requires.kept w.1 place count blocks w.4) in
    let inside : b < length mirror.next.items = (let long = mirror.next_long in omega arith) in let is = c.index-behind.ensures ∙ get_or_default mirror.next.items b c.index-behind.result.now 0 inside in
    let p = c.put_edited-number.ensures in let mirror1 = c.put_edited-number.new.mirror in let new = sheet_of c.put_edited-number.new.writer.place in let number = c.put_edited-number.result in let age = c.index-age.result.now in let more = listed c.args.with in
    let put = subst (λ (n : ℕ). ArePut mirror mirror1 shape old.cells new.cells given (map (kept_in mirror) (take count blocks) ++ aged age more) n number) is p.put in
    let free = λ (x : ℕ) (i : IsAmong x given). unnamed_now (base_of old) h x (base_low old c.args.writer.now.sound) (c.requires.given.free i.0 x i.1) in
    let of = λ (f : StoredFilter) (i : IsAmong f more). in_bucket mirror shape old.cells (root_of h) w.0 w.2 w.3 c.requires.kept w.1 place count blocks w.4 f (w.5 f i) in
    let read = front_read (root_of h) w.2.mask w.1 place count blocks w.4 in
    let links = links_new mirror mirror1 shape old.cells new.cells (root_of h) w.0 w.2 w.3 c.requires.kept w.1 place count blocks w.4 given more age number free put c.requires.shape.1 of w.4.front read bs s in
    let one = commit_is h shape new.cells place count given bs (w.4.front ++ more) c.args.edit g.E.EditName.edit links in
    subst (g.L.Law.keeps (seen_by c.put_edited-number.new.writer.place ++ commit_of shape new.cells (BUCKET_ROOTS + place) bs c.args.edit (Some c.args.edit) g.E.EditName.edit ∷ [])) (sym (base_same old new p.sheet))
    (subst (λ (k : List (Commit g.row.L-Entry.Denot)). g.L.Law.keeps k (base_of old)) (λ t. sym p.seen t ++ sym one t ∷ []) (c.requires.lawful w.4.front read))

pub returns-clause-seen : goal.returns-clause-seen
returns-clause-seen g c = λ front read.
    let mirror = c.args.mirror.now in let shape = c.args.store.now.shape in let h = seen_by c.args.writer.now.place in let old = sheet_of c.args.writer.now.place in let blocks = c.args.blocks.now in let count = c.args.found.front in
    let place = c.args.found.place in let given = c.args.given.now in let w = c.requires.found in let b = get_or blocks count 0 in
    let small = low mirror shape old.cells (root_of h) w.0 w.2 w.3 c.requires.kept w.1 place count blocks w.4 count b (there mirror shape old.cells (root_of h) w.0 w.2 w.3 c.requires.kept w.1 place count blocks w.4) in
    let inside : b < length mirror.next.items = (let long = mirror.next_long in omega arith) in let is = c.index-behind.ensures ∙ get_or_default mirror.next.items b c.index-behind.result.now 0 inside in
    let p = c.put_edited-number.ensures in let mirror1 = c.put_edited-number.new.mirror in let new = sheet_of c.put_edited-number.new.writer.place in let number = c.put_edited-number.result in let age = c.index-age.result.now in let more = listed c.args.with in
    let put = subst (λ (n : ℕ). ArePut mirror mirror1 shape old.cells new.cells given (map (kept_in mirror) (take count blocks) ++ aged age more) n number) is p.put in
    let free = λ (x : ℕ) (i : IsAmong x given). unnamed_now (base_of old) h x (base_low old c.args.writer.now.sound) (c.requires.given.free i.0 x i.1) in
    let of = λ (f : StoredFilter) (i : IsAmong f more). in_bucket mirror shape old.cells (root_of h) w.0 w.2 w.3 c.requires.kept w.1 place count blocks w.4 f (w.5 f i) in
    let chain = chain_ready mirror mirror1 shape old.cells new.cells (root_of h) w.0 w.2 w.3 c.requires.kept w.1 place count blocks w.4 given more age number free put of in
    let links = links_new mirror mirror1 shape old.cells new.cells (root_of h) w.0 w.2 w.3 c.requires.kept w.1 place count blocks w.4 given more age number free put c.requires.shape.1 of front read chain.1 chain.2.spelled in
    let one = commit_is h shape new.cells place count given chain.1 (front ++ more) c.args.edit g.E.EditName.edit links in
    c.rename.ensures.seen chain.1 chain.2.spelled ∙ (λ t. p.seen t ++ one t ∷ [])

pub returns-clause-others : goal.returns-clause-others
returns-clause-others g c = λ other out less.
    let shape = c.args.store.now.shape in
    ap (λ (d : Sheet). block_words shape d.cells other) c.rename.ensures.sheet ∙ c.put_edited-number.ensures.put.filled.others other out less

pub returns-clause-list : goal.returns-clause-list
returns-clause-list g c = λ slot handle last kept earlier gone later stands found lists named keys none.
    let mirror = c.args.mirror.now in let shape = c.args.store.now.shape in let h = seen_by c.args.writer.now.place in let old = sheet_of c.args.writer.now.place in let blocks = c.args.blocks.now in let count = c.args.found.front in
    let place = c.args.found.place in let given = c.args.given.now in let w = c.requires.found in let b = get_or blocks count 0 in
    let small = low mirror shape old.cells (root_of h) w.0 w.2 w.3 c.requires.kept w.1 place count blocks w.4 count b (there mirror shape old.cells (root_of h) w.0 w.2 w.3 c.requires.kept w.1 place count blocks w.4) in
    let inside : b < length mirror.next.items = (let long = mirror.next_long in omega arith) in let is = c.index-behind.ensures ∙ get_or_default mirror.next.items b c.index-behind.result.now 0 inside in
    let p = c.put_edited-number.ensures in let mirror1 = c.put_edited-number.new.mirror in let new = sheet_of c.put_edited-number.new.writer.place in let number = c.put_edited-number.result in let age = c.index-age.result.now in let more = listed c.args.with in
    let put = subst (λ (n : ℕ). ArePut mirror mirror1 shape old.cells new.cells given (map (kept_in mirror) (take count blocks) ++ aged age more) n number) is p.put in
    let free = λ (x : ℕ) (i : IsAmong x given). unnamed_now (base_of old) h x (base_low old c.args.writer.now.sound) (c.requires.given.free i.0 x i.1) in
    let inside_ages : b < length mirror.ages.items = (let long = mirror.ages_long in omega arith) in let is_age = c.index-age.ensures ∙ get_or_default mirror.ages.items b age 0 inside_ages in
    list_changed mirror mirror1 shape old.cells new.cells (root_of h) slot kept stands c.requires.kept handle place count blocks found given more age number free put c.rename.new.mirror c.requires.small c.rename.ensures.renamed (root_of (seen_by c.put_edited-number.new.writer.place)) p.kept
    (listed_few c.args.with) is_age last earlier gone later (p.lists slot last (earlier ++ gone ∷ later) lists) keys none

pub returns-clause-lists : goal.returns-clause-lists
returns-clause-lists g c = λ slot handle kept stands found other last fs apart lists.
    let mirror = c.args.mirror.now in let shape = c.args.store.now.shape in let h = seen_by c.args.writer.now.place in let old = sheet_of c.args.writer.now.place in let blocks = c.args.blocks.now in let count = c.args.found.front in
    let place = c.args.found.place in let given = c.args.given.now in let w = c.requires.found in let b = get_or blocks count 0 in
    let small = low mirror shape old.cells (root_of h) w.0 w.2 w.3 c.requires.kept w.1 place count blocks w.4 count b (there mirror shape old.cells (root_of h) w.0 w.2 w.3 c.requires.kept w.1 place count blocks w.4) in
    let inside : b < length mirror.next.items = (let long = mirror.next_long in omega arith) in let is = c.index-behind.ensures ∙ get_or_default mirror.next.items b c.index-behind.result.now 0 inside in
    let p = c.put_edited-number.ensures in let mirror1 = c.put_edited-number.new.mirror in let new = sheet_of c.put_edited-number.new.writer.place in let number = c.put_edited-number.result in let age = c.index-age.result.now in let more = listed c.args.with in
    let put = subst (λ (n : ℕ). ArePut mirror mirror1 shape old.cells new.cells given (map (kept_in mirror) (take count blocks) ++ aged age more) n number) is p.put in
    let free = λ (x : ℕ) (i : IsAmong x given). unnamed_now (base_of old) h x (base_low old c.args.writer.now.sound) (c.requires.given.free i.0 x i.1) in
    lists_stay mirror mirror1 shape old.cells new.cells (root_of h) slot kept stands c.requires.kept handle place count blocks found given more age number free put c.rename.new.mirror c.requires.small c.rename.ensures.renamed (root_of (seen_by c.put_edited-number.new.writer.place)) p.kept other last fs apart (p.lists other last fs lists)
