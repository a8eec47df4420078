use Rattle.std.proofs.Common.{◌≡◌, ◌∙◌, ℕ, ◌+◌, ◌<◌, [], ◌∷◌, length, Option, Some, sym, subst, arith}
use Rattle.std.proofs.lemmas.List.{get_or_default}
use Rattle.pin_store.specs.Calls.{sheet_of}
use Rattle.block_codec.specs.declared.filter.StoredFilter.{StoredFilter}
use Rattle.mask_table.specs.OfMirrors.Lists.{kept_in}
use Rattle.mask_bucket_edits.specs.Putting.{ArePut}
use Rattle.mask_bucket_edits.proofs.Putting.{put_one}
use Rattle.mask_bucket_edits.proofs.copying.put_copy.Goals as goal

pub returns-clause-put : goal.returns-clause-put
returns-clause-put g c =
    let mirror = c.args.mirror.now in let mirror2 = c.put_in_front.new.mirror in let shape = c.args.store.now.shape in let p = c.put_in_front.ensures in let b = c.args.block in
    let old = (sheet_of c.args.writer.now.place).cells in let new = (sheet_of c.put_in_front.new.writer.place).cells in let age = c.index-age.result.now in let filter = c.kept_filter-filter.result in
    let inside : c.args.from < length mirror.ages.items = (let long = mirror.ages_long in let low = c.requires.from.pool in omega arith) in
    let aged = c.index-age.ensures ∙ get_or_default mirror.ages.items c.args.from age 0 inside in let kept = c.kept_filter-filter.ensures in
    let same : (age, Some filter) ≡ kept_in mirror c.args.from = λ t. (aged t, sym kept t) in
    subst (λ (k : ℕ × Option StoredFilter). ArePut mirror mirror2 shape old new (b ∷ []) (k ∷ []) c.args.number (b + 1)) same
    (put_one mirror mirror2 shape old new b c.args.number age filter p.filled p.dated p.chain)
