use Rattle.filter_index.proofs.Indexed.{reordered}
use Rattle.filter_index.proofs.filters.Filters.reserve.Goals as goal

pub invariant_of-self-2 : goal.invariant_of-self-2
invariant_of-self-2 c =
    let inside = c.self.inside in
    rw c.reserve.ensures.items
    (reordered inside.handles inside.chains.digests inside.slots.items c.self.invariant c.reserve-2.new.self c.reserve-3.new.self.digests
    c.reserve-2.ensures.entries.2 c.reserve-3.ensures.digests c.reserve-2.ensures.entries.1)
