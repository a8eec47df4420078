use Rattle.std.proofs.Common.{arith, Option, ap, sym, ◌∙◌}
use Rattle.std.specs.Prelude.{option_map}
use Rattle.filter_index.specs.declared.filter.Filter.{Filter}
use Rattle.filter_index.specs.Listed.{has_handle}
use Rattle.filter_index.proofs.Calls.{never_none, found_there, value_there, some_there, changed_there}
use Rattle.filter_index.proofs.Cuts.{cut, cut_within}
use Rattle.filter_index.proofs.Indexed.{other_actions, there_with}
use Rattle.filter_index.proofs.filters.Filters.set_actions.Goals as goal

pub unreachable-requires : goal.unreachable-requires
unreachable-requires c =
    never_none (has_handle c.args.handle) c.self.inside.slots.items c.args.self.now.filters (ap (λ v. v.filters) c.self.view_is) c.copied.result
    (c.copied.ensures ∙ c.get.ensures.value ∙ c.self.invariant.handle_at c.args.handle) c.requires c.in_default.is

pub index_mut-requires : goal.index_mut-requires
index_mut-requires c =
    let test = has_handle c.args.handle in
    let slots = c.self.inside.slots.items in
    omega (arith, c.self.inside.slots.ok.0, cut_within test slots c.in-Some.at (cut test slots c.in-Some.at (sym (c.self.invariant.handle_at c.args.handle) ∙ sym c.get.ensures.value ∙ sym c.copied.ensures ∙ c.in-Some.is)))

pub exchange_actions-requires : goal.exchange_actions-requires
exchange_actions-requires c =
    let test = has_handle c.args.handle in
    let slots = c.self.inside.slots.items in
    let part = cut test slots c.in-Some.at (sym (c.self.invariant.handle_at c.args.handle) ∙ sym c.get.ensures.value ∙ sym c.copied.ensures ∙ c.in-Some.is) in
    some_there c.index_mut.result.now part.value (value_there test slots c.in-Some.at c.index_mut.result.now part c.index_mut.ensures.value)

pub invariant_of-self : goal.invariant_of-self
invariant_of-self c =
    let inside = c.self.inside in
    let test = has_handle c.args.handle in
    let slots = inside.slots.items in
    let part = cut test slots c.in-Some.at (sym (c.self.invariant.handle_at c.args.handle) ∙ sym c.get.ensures.value ∙ sym c.copied.ensures ∙ c.in-Some.is) in
    let now = changed_there c.index_mut.result.now c.exchange_actions.new.slot part.value c.args.actions c.exchange_actions.ensures.slot
    (value_there test slots c.in-Some.at c.index_mut.result.now part c.index_mut.ensures.value) in
    rw now (other_actions inside.handles inside.chains.digests slots c.self.invariant c.args.handle c.in-Some.at part c.args.actions)

pub returns-clause-old : goal.returns-clause-old
returns-clause-old c =
    c.exchange_actions.ensures.old
    ∙ ap (λ (o : Option Filter). option_map (λ (f : Filter). f.actions) o)
    (found_there (has_handle c.args.handle) c.self.inside.slots.items c.args.self.now.filters (ap (λ v. v.filters) c.self.view_is) c.in-Some.at c.index_mut.result.now
    (sym (sym (c.self.invariant.handle_at c.args.handle) ∙ sym c.get.ensures.value ∙ sym c.copied.ensures ∙ c.in-Some.is)) c.index_mut.ensures.value)

pub returns-clause-filters : goal.returns-clause-filters
returns-clause-filters c =
    let test = has_handle c.args.handle in
    let slots = c.self.inside.slots.items in
    let part = cut test slots c.in-Some.at (sym (c.self.invariant.handle_at c.args.handle) ∙ sym c.get.ensures.value ∙ sym c.copied.ensures ∙ c.in-Some.is) in
    let now = changed_there c.index_mut.result.now c.exchange_actions.new.slot part.value c.args.actions c.exchange_actions.ensures.slot
    (value_there test slots c.in-Some.at c.index_mut.result.now part c.index_mut.ensures.value) in
    rw now
    (there_with slots c.args.handle c.in-Some.at part c.self.invariant.apart c.args.self.now.filters (ap (λ v. v.filters) c.self.view_is) c.args.actions)
