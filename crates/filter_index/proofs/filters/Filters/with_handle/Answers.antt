use Rattle.std.proofs.Common.{arith, ap, sym, ◌∙◌}
use Rattle.std.specs.Option.{option_copied}
use Rattle.filter_index.specs.Listed.{has_handle}
use Rattle.filter_index.proofs.Calls.{not_found, found_there}
use Rattle.filter_index.proofs.Cuts.{cut, cut_within}
use Rattle.filter_index.proofs.filters.Filters.with_handle.Goals as goal

pub returns-in_err-at : goal.returns-in_err-at
returns-in_err-at c =
    ap option_copied c.from_residual.ensures
    ∙ not_found (has_handle c.args.handle) c.self.inside.slots.items c.args.self.now.filters (ap (λ v. v.filters) c.self.view_is) (option_copied c.get.result)
    (c.get.ensures.value ∙ c.self.invariant.handle_at c.args.handle) (ap option_copied c.in_err-at.was)

pub index-requires : goal.index-requires
index-requires c =
    let at = c.in_ok-at.field-0.now in
    let slots = c.self.inside.slots.items in
    let test = has_handle c.args.handle in
    omega (arith, c.self.inside.slots.ok.0, cut_within test slots at (cut test slots at (sym (c.self.invariant.handle_at c.args.handle) ∙ sym c.get.ensures.value ∙ ap option_copied c.in_ok-at.was)))

pub returns : goal.returns
returns c =
    c.as_ref.ensures.value
    ∙ found_there (has_handle c.args.handle) c.self.inside.slots.items c.args.self.now.filters (ap (λ v. v.filters) c.self.view_is) c.in_ok-at.field-0.now c.index.result.now
    (ap option_copied (sym c.in_ok-at.was) ∙ c.get.ensures.value ∙ c.self.invariant.handle_at c.args.handle) c.index.ensures
