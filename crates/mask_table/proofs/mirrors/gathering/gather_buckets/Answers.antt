use Rattle.std.proofs.Common.{◌∙◌, ℕ, ◌+◌, ◌<◌, List, ◌++◌, length, get_or, refl, sym, ap, arith, append_assoc, length-append}
use Rattle.std.proofs.lemmas.List.{get_or_default}
use Rattle.mask_table.specs.OfMirrors.Forgetting.{bucket_blocks}
use Rattle.mask_table.proofs.OfMirrors.Spelling.{same_blocks}
use Rattle.mask_table.proofs.OfMirrors.Forgetting.{bucket, spelled_as, blocks_more, few_gathered}
use Rattle.mask_table.proofs.mirrors.gathering.gather_buckets.Goals as goal

pub place_of-place-requires-clause-storable : goal.place_of-place-requires-clause-storable
place_of-place-requires-clause-storable c = let w = c.requires.kept in (w.5.masks w.0 c.args.kept.now w.4).there.storable

pub gather-requires-clause-spelled : goal.gather-requires-clause-spelled
gather-requires-clause-spelled c =
    let mirror = c.args.mirror.now in let kept = c.args.kept.now in let k = c.loop-bucket.bucket in let less = c.loop-bucket-test.true in let place = c.place_of-place.result in let found = c.index.result.now in
    let inside : place < length mirror.first.items = (let long = mirror.first_long in let small = c.place_of-place.ensures.small in omega arith) in
    let is = c.index.ensures ∙ (get_or_default mirror.first.items place found 0 inside ∙ ap (λ (j : ℕ). get_or mirror.first.items j 0) c.place_of-place.ensures.place) in
    let w = c.requires.kept in
    ((bucket mirror w.1 w.2 w.3 w.0 kept w.4 w.5 k less).blocks, spelled_as mirror w.1 w.2 w.3 w.0 kept w.4 w.5 k less c.deref.result.now found c.deref.ensures.value is)

pub gather-requires-clause-few : goal.gather-requires-clause-few
gather-requires-clause-few c = λ blocks s.
    let mirror = c.args.mirror.now in let kept = c.args.kept.now in let k = c.loop-bucket.bucket in let less = c.loop-bucket-test.true in let place = c.place_of-place.result in let found = c.index.result.now in
    let inside : place < length mirror.first.items = (let long = mirror.first_long in let small = c.place_of-place.ensures.small in omega arith) in
    let is = c.index.ensures ∙ (get_or_default mirror.first.items place found 0 inside ∙ ap (λ (j : ℕ). get_or mirror.first.items j 0) c.place_of-place.ensures.place) in
    let w = c.requires.kept in
    let own = (bucket mirror w.1 w.2 w.3 w.0 kept w.4 w.5 k less).blocks in
    let same = same_blocks c.deref.result.now found found blocks own refl s (spelled_as mirror w.1 w.2 w.3 w.0 kept w.4 w.5 k less c.deref.result.now found c.deref.ensures.value is) in
    let short = few_gathered mirror w.1 w.2 w.3 w.0 kept w.4 w.5 (k + 1) (omega arith) in
    let more = ap length (blocks_more mirror w.1 w.2 w.3 w.0 kept w.4 w.5 k less) ∙ length-append (bucket_blocks w.3 kept.mask k) own in
    let long = ap length (c.loop-bucket.invariant w.0 w.1 w.2 w.3 w.4 w.5) ∙ length-append c.args.left.now (bucket_blocks w.3 kept.mask k) in
    let as_long = ap length same in let one = c.requires.one in omega arith

pub loop-bucket-preserved : goal.loop-bucket-preserved
loop-bucket-preserved c = λ slot shape cells roots stands keeps.
    let mirror = c.args.mirror.now in let kept = c.args.kept.now in let k = c.loop-bucket.bucket in let less = c.loop-bucket-test.true in let place = c.place_of-place.result in let found = c.index.result.now in
    let inside : place < length mirror.first.items = (let long = mirror.first_long in let small = c.place_of-place.ensures.small in omega arith) in
    let is = c.index.ensures ∙ (get_or_default mirror.first.items place found 0 inside ∙ ap (λ (j : ℕ). get_or mirror.first.items j 0) c.place_of-place.ensures.place) in
    let own = (bucket mirror shape cells roots slot kept stands keeps k less).blocks in
    c.gather.ensures own (spelled_as mirror shape cells roots slot kept stands keeps k less c.deref.result.now found c.deref.ensures.value is)
    ∙ (ap (λ (bs : List ℕ). bs ++ own) (c.loop-bucket.invariant slot shape cells roots stands keeps)
    ∙ (append_assoc c.args.left.now (bucket_blocks roots kept.mask k) own
    ∙ ap (λ (bs : List ℕ). c.args.left.now ++ bs) (sym (blocks_more mirror shape cells roots slot kept stands keeps k less))))
