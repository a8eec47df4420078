use Rattle.std.proofs.Common.{◌∙◌, ℕ, ◌<◌, List, ◌∷◌, ◌++◌, [], length, None, refl, sym, ap, arith}
use Rattle.std.proofs.lemmas.List.{get_or_default}
use Rattle.mask_table.specs.declared.mirrors.mirror.KeptMask.{KeptMask}
use Rattle.mask_table.specs.OfMirrors.Kept.{Stands}
use Rattle.mask_table.specs.OfMirrors.Forgetting.{bucket_blocks}
use Rattle.mask_table.proofs.OfMirrors.Keeping.{same_kept}
use Rattle.mask_table.proofs.mirrors.gathering.gather_mask.Goals as goal

pub returns-clause-blocks : goal.returns-clause-blocks
returns-clause-blocks c = λ kept shape cells roots stands keeps.
    let mirror = c.args.mirror.now in let slot = c.args.slot in let found = c.in-Some.kept in
    let inside : slot < length mirror.slots.items = (let long = mirror.slots_long in let small = c.requires.slot in omega arith) in
    let here : Stands mirror slot found = sym (get_or_default mirror.slots.items slot c.index.result.now None inside) ∙ (sym c.index.ensures ∙ c.in-Some.is) in
    let same = same_kept mirror slot slot found kept refl here stands in
    c.gather_buckets.ensures slot shape cells roots here keeps
    ∙ (ap (λ (bs : List ℕ). bs ++ bucket_blocks roots found.mask found.mask.size) (c.push.ensures ∙ ap (λ (bs : List ℕ). bs ++ found.block ∷ []) c.requires.empty.0)
    ∙ ap (λ (m : KeptMask). m.block ∷ bucket_blocks roots m.mask m.mask.size) same)
