use Rattle.std.proofs.Common.{arith, ap, ◌∙◌, ◌∷◌, [], ◌++◌, Some}
use Rattle.std.specs.List.{list_any}
use Rattle.filter_index.specs.Listed.{has_handle, has_key, those_there}
use Rattle.filter_index.proofs.Indexed.{one_more}
use Rattle.filter_index.proofs.Slots.{none_there, there_append}
use Rattle.filter_index.proofs.filters.Filters.push.Goals as goal

pub point-requires-clause-new : goal.point-requires-clause-new
point-requires-clause-new c =
    let test = has_handle c.args.filter.handle in
    c.self.invariant.handle_at c.args.filter.handle
    ∙ none_there test c.self.inside.slots.items (ap (λ v. list_any test v.filters) c.self.view_is ∙ c.requires.handle)

pub invariant_of-self : goal.invariant_of-self
invariant_of-self c =
    let inside = c.self.inside in
    let f = c.args.filter in
    rw (c.push_reserved.ensures.items, c.push.ensures.digests, c.digest.ensures)
    (one_more inside.handles inside.chains.digests inside.slots.items c.self.invariant f c.len-at.result c.point.new.index (omega (arith, inside.slots.ok.0, c.len-at.ensures))
    (ap (λ v. list_any (has_handle f.handle) v.filters) c.self.view_is ∙ c.requires.handle)
    (ap (λ v. list_any (has_key f.key.words) v.filters) c.self.view_is ∙ c.requires.key)
    c.point.ensures.updates.0 c.point.ensures.len)

pub returns-clause-filters : goal.returns-clause-filters
returns-clause-filters c =
    ap those_there c.push_reserved.ensures.items ∙ there_append c.self.inside.slots.items (Some c.args.filter ∷ [])
    ∙ ap (λ v. v.filters ++ c.args.filter ∷ []) c.self.view_is
