use Rattle.std.proofs.Common.{◌∙◌, ℕ, ◌+◌, List, get_or, Option, None, ap}
use Rattle.block_codec.specs.declared.filter.StoredFilter.{StoredFilter}
use Rattle.store_history.specs.History.{root_of}
use Rattle.pin_store.specs.Calls.{seen_by, sheet_of}
use Rattle.mask_table.specs.Buckets.{bucket_for}
use Rattle.mask_build.proofs.Aside.{place_aside, bucket_within, free_rows_same, first_read, kept_aside, has_aside}
use Rattle.mask_build.proofs.Stacking.{laid_more}
use Rattle.mask_build.proofs.laying.lay.Goals as goal

pub returns-clause-laid : goal.returns-clause-laid
returns-clause-laid g c = λ xs apart laid.
    let mirror = c.args.mirror.now in let mask = c.args.mask.now in let place = c.place_for-place.result in let number = c.index-number.result.now in let b = c.begin.ensures in let p = c.put_in_front.ensures in
    let was = first_read mirror place number c.place_for-place.ensures.small c.index-number.ensures in
    laid_more mirror c.put_in_front.new.mirror c.begin.new.self c.args.store.now.shape (sheet_of c.args.writer.now.place).cells (sheet_of c.put_in_front.new.writer.place).cells mask c.args.filter.now c.args.block c.args.age place number xs
    c.requires.mask c.requires.rows.different (bucket_within mask c.requires.mask c.args.filter.now.key.words) p.filled (record { slots = b.slots; next = b.next; filters = b.filters; ages = b.ages; first = b.first })
    c.place_for-place.ensures.place was p.dated apart laid (p.chain mask.size)

pub returns-clause-kept : goal.returns-clause-kept
returns-clause-kept g c = let mask = c.args.mask.now in let b = c.begin.ensures in let p = c.put_in_front.ensures in let mid = c.put_in_front.new.mirror in let key = c.args.filter.now.key.words in
    let shape = c.args.store.now.shape in let cells = (sheet_of c.put_in_front.new.writer.place).cells in let roots = root_of (seen_by c.put_in_front.new.writer.place) in
    kept_aside mid c.begin.new.self c.place_for-place.result (c.args.block + 1) (record { slots = b.slots; next = b.next; filters = b.filters; ages = b.ages; first = b.first })
    (place_aside mid shape cells roots p.kept mask c.requires.mask (free_rows_same c.args.mirror.now mid mask.rows p.filled.slots c.requires.rows) (bucket_for mask.size key) c.place_for-place.result (bucket_within mask c.requires.mask key) c.place_for-place.ensures.place)
    shape cells roots p.kept

pub returns-clause-lists : goal.returns-clause-lists
returns-clause-lists g c = λ slot last fs has. let mask = c.args.mask.now in let b = c.begin.ensures in let p = c.put_in_front.ensures in let mid = c.put_in_front.new.mirror in let key = c.args.filter.now.key.words in
    let shape = c.args.store.now.shape in let cells = (sheet_of c.put_in_front.new.writer.place).cells in let roots = root_of (seen_by c.put_in_front.new.writer.place) in
    has_aside mid c.begin.new.self c.place_for-place.result (c.args.block + 1) (record { slots = b.slots; next = b.next; filters = b.filters; ages = b.ages; first = b.first })
    (place_aside mid shape cells roots p.kept mask c.requires.mask (free_rows_same c.args.mirror.now mid mask.rows p.filled.slots c.requires.rows) (bucket_for mask.size key) c.place_for-place.result (bucket_within mask c.requires.mask key) c.place_for-place.ensures.place)
    slot last fs (p.lists slot last fs has)

pub returns-clause-dated : goal.returns-clause-dated
returns-clause-dated g c = λ k away. let p = c.put_in_front.ensures in let b = c.begin.ensures in let age = p.filled.ages k away in let filter = p.filled.filters k away in
    λ t. ((ap (λ (xs : List ℕ). get_or xs k 0) b.ages ∙ age) t, (ap (λ (fs : List (Option StoredFilter)). get_or fs k None) b.filters ∙ filter) t)
