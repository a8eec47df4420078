use Rattle.std.proofs.Common.{◌+◌, ◌<◌, sym, ap, rules}
use Rattle.store_history.specs.declared.places.TheConstants.{BUCKET_ROOTS, POOL_BLOCKS}
use Rattle.mask_writer.specs.Masks.{Masks}
use Rattle.mask_writer.proofs.Showing.{stands_kept, named_kept}
use Rattle.mask_writer.proofs.mask_writer.MaskWriter.later_than.Goals as goal
use Rattle.mask_bucket_edits.proofs.Chains.{short}

pub find-found-requires-clause-there : goal.find-found-requires-clause-there
find-found-requires-clause-there c = let w = c.args.self.now in let m = c.self.inside.mirror in let os = c.self.inside.told.orders in let at = ap (λ (v : Masks). v.at) (sym c.self.view_is) in let slot = c.args.slot in
    let r = c.requires.there in (r.0, r.1, r.2, r.3, r.4, r.5, r.6, stands_kept w m os at slot r.0 r.7, named_kept w m os at r.1 r.2 r.3 c.self.invariant r.8, r.9)

pub overflow_cast-result : goal.overflow_cast-result
overflow_cast-result c = let w = c.args.self.now in let m = c.self.inside.mirror in let os = c.self.inside.told.orders in let at = ap (λ (v : Masks). v.at) (sym c.self.view_is) in let slot = c.args.slot in
    let r = c.requires.there in let found = c.find-found.result in let stands = stands_kept w m os at slot r.0 r.7 in
    let keeps = named_kept w m os at r.1 r.2 r.3 c.self.invariant r.8 in let f = c.find-found.ensures.found r.0 r.1 r.2 r.3 stands keeps in
    let small : found.front < POOL_BLOCKS = short m r.1 r.2 r.3 slot r.0 stands keeps c.args.handle found.place found.front c.find-found.new.room f in search rules

pub returns-clause-count : goal.returns-clause-count
returns-clause-count c = λ kept shape cells roots stands named. let w = c.args.self.now in let m = c.self.inside.mirror in let os = c.self.inside.told.orders in let at = ap (λ (v : Masks). v.at) (sym c.self.view_is) in let slot = c.args.slot in
    let f = c.find-found.ensures.found kept shape cells roots (stands_kept w m os at slot kept stands) (named_kept w m os at shape cells roots c.self.invariant named) in
    (BUCKET_ROOTS + c.find-found.result.place, f.front, f.filter, f.there, sym f.counted)
