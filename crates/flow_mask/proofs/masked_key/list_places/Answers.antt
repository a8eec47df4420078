use Rattle.std.proofs.Common.{◌≡◌, arith, subst}
use Rattle.flow_mask.specs.Places.{HasPlaces}
use Rattle.flow_mask.proofs.masked_key.list_places.Goals as goal

pub returns-clause-places : goal.returns-clause-places
returns-clause-places c =
    let all : c.loop-i.i ≡ 14 = omega arith in
    subst (λ n. HasPlaces c.args.mask.now n c.loop-i.places c.loop-i.count) all c.loop-i.invariant.places
