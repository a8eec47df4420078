use Rattle.std.proofs.Common.{◌≡◌, ◌∙◌, ℕ, ◌<◌, List, ◌++◌, length, get_or, slice_get, Some, sym, ap, subst, arith}
use Rattle.std.proofs.lemmas.List.{get_or_default}
use Rattle.std.proofs.lemmas.Option.{slice_get-get_or}
use Rattle.mask_table.specs.OfMirrors.Kept.{Spells}
use Rattle.mask_table.proofs.OfMirrors.Spelling.{few_blocks}
use Rattle.mask_table.proofs.OfMirrors.Chains.{spelled_low}
use Rattle.mask_bucket_edits.proofs.finding.look.Goals as goal

pub gather-requires-clause-few : goal.gather-requires-clause-few
gather-requires-clause-few c = λ blocks s. let short = few_blocks c.deref.result.now c.index.result.now blocks s in let none = ap length c.clear.ensures in omega arith

pub count_before-requires : goal.count_before-requires
count_before-requires c = λ k d less.
    let mirror = c.args.mirror.now in let place = c.args.place in let found = c.index.result.now in let bs = c.requires.spelled.0 in
    let inside : place < length mirror.first.items = (let long = mirror.first_long in let small = c.requires.small in omega arith) in
    let begins = c.index.ensures ∙ get_or_default mirror.first.items place found 0 inside in
    let spelled = subst (λ (ns : List ℕ). Spells ns found bs) (sym c.deref.ensures.value) (subst (λ (n : ℕ). Spells mirror.next.items n bs) (sym begins) c.requires.spelled.1) in
    let is = c.as_slice.ensures ∙ (c.gather.ensures bs spelled ∙ ap (λ (xs : List ℕ). xs ++ bs) c.clear.ensures) in
    let there = subst (λ (xs : List ℕ). slice_get xs k ≡ Some (get_or c.as_slice.result.now k d)) is (slice_get-get_or c.as_slice.result.now k d less) in
    spelled_low mirror.next.items (get_or mirror.first.items place 0) bs c.requires.spelled.1 k (get_or c.as_slice.result.now k d) there

pub returns-clause-none : goal.returns-clause-none
returns-clause-none c = λ none place b e. c.count_before.ensures.none none place b (subst (λ (bs : List ℕ). slice_get bs place ≡ Some b) (sym c.as_slice.ensures) e)
