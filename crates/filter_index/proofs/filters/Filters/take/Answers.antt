use Rattle.std.proofs.Common.{arith, ◌≡◌, Some, None, ap, sym, ◌∙◌}
use Rattle.filter_index.specs.Listed.{has_handle}
use Rattle.filter_index.proofs.Calls.{never_none, found_there, value_there}
use Rattle.filter_index.proofs.Cuts.{cut, cut_within, cut_read}
use Rattle.filter_index.proofs.Indexed.{one_fewer, there_without}
use Rattle.filter_index.proofs.Seeking.{has_digest}
use Rattle.filter_index.proofs.filters.Filters.take.Goals as goal

pub unreachable-requires : goal.unreachable-requires
unreachable-requires c =
    never_none (has_handle c.args.handle) c.self.inside.slots.items c.args.self.now.filters (ap (λ v. v.filters) c.self.view_is) c.remove.result
    (c.remove.ensures.value ∙ c.self.invariant.handle_at c.args.handle) c.requires c.in_default.is

pub index_mut-requires : goal.index_mut-requires
index_mut-requires c =
    let test = has_handle c.args.handle in
    let slots = c.self.inside.slots.items in
    omega (arith, c.self.inside.slots.ok.0, cut_within test slots c.in-Some.at (cut test slots c.in-Some.at (sym (c.self.invariant.handle_at c.args.handle) ∙ sym c.remove.ensures.value ∙ c.in-Some.is)))

pub unreachable-requires-in_default-take : goal.unreachable-requires-in_default-take
unreachable-requires-in_default-take c =
    let test = has_handle c.args.handle in
    let slots = c.self.inside.slots.items in
    let part = cut test slots c.in-Some.at (sym (c.self.invariant.handle_at c.args.handle) ∙ sym c.remove.ensures.value ∙ c.in-Some.is) in
    let some : None ≡ Some part.value = sym c.in_default-take.is ∙ c.take.ensures.value ∙ value_there test slots c.in-Some.at c.index_mut.result.now part c.index_mut.ensures.value in
    cc

pub remove-requires-2 : goal.remove-requires-2
remove-requires-2 c =
    let test = has_handle c.args.handle in
    let slots = c.self.inside.slots.items in
    let part = cut test slots c.in-Some.at (sym (c.self.invariant.handle_at c.args.handle) ∙ sym c.remove.ensures.value ∙ c.in-Some.is) in
    let some : Some c.in-Some-take.filter ≡ Some part.value =
    sym c.in-Some-take.is ∙ c.take.ensures.value ∙ value_there test slots c.in-Some.at c.index_mut.result.now part c.index_mut.ensures.value in
    has_digest c.self.inside.chains.digests slots c.self.invariant.even c.in-Some.at c.in-Some-take.filter (cut_read test slots c.in-Some.at None part ∙ sym some)
    ∙ ap Some (sym c.digest.ensures)

pub invariant_of-self : goal.invariant_of-self
invariant_of-self c =
    let inside = c.self.inside in
    let slots = inside.slots.items in
    let part = cut (has_handle c.args.handle) slots c.in-Some.at (sym (c.self.invariant.handle_at c.args.handle) ∙ sym c.remove.ensures.value ∙ c.in-Some.is) in
    rw (c.take.ensures.after, c.remove-2.ensures.digests)
    (one_fewer inside.handles inside.chains.digests slots c.self.invariant c.args.handle c.in-Some.at part c.remove.new.self c.remove.ensures.updates.0 c.in-Some.ensures.len)

pub returns-clause-taken : goal.returns-clause-taken
returns-clause-taken c =
    sym c.in-Some-take.is ∙ c.take.ensures.value
    ∙ found_there (has_handle c.args.handle) c.self.inside.slots.items c.args.self.now.filters (ap (λ v. v.filters) c.self.view_is) c.in-Some.at c.index_mut.result.now
    (sym (sym (c.self.invariant.handle_at c.args.handle) ∙ sym c.remove.ensures.value ∙ c.in-Some.is)) c.index_mut.ensures.value

pub returns-clause-filters : goal.returns-clause-filters
returns-clause-filters c =
    let test = has_handle c.args.handle in
    let slots = c.self.inside.slots.items in
    rw c.take.ensures.after
    (there_without slots c.args.handle c.in-Some.at (cut test slots c.in-Some.at (sym (c.self.invariant.handle_at c.args.handle) ∙ sym c.remove.ensures.value ∙ c.in-Some.is))
    c.self.invariant.apart c.args.self.now.filters (ap (λ v. v.filters) c.self.view_is))
