use Rattle.std.proofs.Common.{◌≡◌, ◌<◌, ◌≤◌, ℕ, List, length, ap, ◌∙◌, subst, arith}
use Rattle.std.specs.Prelude.{map}
use Rattle.filter_tables.specs.Plain.{PlainMask}
use Rattle.filter_tables.specs.SeenMask.{plain_mask}
use Rattle.filter_tables.specs.Changes.{count_of, IsLowestFree}
use Rattle.filter_tables.specs.Handles.{times}
use Rattle.filter_tables.proofs.Moves.{as_many, lowest}
use Rattle.filter_tables.proofs.mask_lists.MaskLists.free_handle.Goals as goal

pub lowest_free-requires-clause-few : goal.lowest_free-requires-clause-few
lowest_free-requires-clause-few c =
    let long : length c.deref.result.now ≡ count_of c.args.self.now.masks =
    ap length c.deref.ensures.value ∙ as_many (map plain_mask c.self.inside.items.items) c.self.inside.handles.items c.self.invariant ∙ ap (λ v. count_of v.masks) c.self.view_is in
    omega (arith, long, c.requires)

pub returns : goal.returns
returns c =
    let read = c.deref.ensures.value in
    let number = c.lowest_free.result in
    let Free : List ℕ → Type 0 = λ ns. times number ns ≡ 0 in
    let Used : List ℕ → Type 0 = λ ns. (lower : ℕ) → 1 ≤ lower → lower < number → 0 < times lower ns in
    let Lowest : List PlainMask → Type 0 = λ masks. IsLowestFree masks number in
    subst Lowest (ap (λ v. v.masks) c.self.view_is)
    (lowest (map plain_mask c.self.inside.items.items) c.self.inside.handles.items c.self.invariant number c.lowest_free.ensures.from_one
    (subst Free read c.lowest_free.ensures.free) (subst Used read c.lowest_free.ensures.lowest))
