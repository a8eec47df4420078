use Rattle.std.proofs.Common.{◌≡◌, ◌∙◌, Some, sym, ap, arith}
use Rattle.std.specs.Option.{option_copied}
use Rattle.filter_tables.specs.SeenMask.{plain_mask}
use Rattle.plain_walk.specs.Lookups.{met_in}
use Rattle.plain_walk.proofs.Looking.{met_here, one_short, all_missed}
use Rattle.plain_walk.proofs.lookups.look_up.Goals as goal

pub returns-then-place-left-clause-looked : goal.returns-then-place-left-clause-looked
returns-then-place-left-clause-looked c =
    let invariant = c.loop-place.invariant in
    let short = one_short c.args.key.now.words c.args.masks.now c.loop-place.place c.index-masks-place.result c.loop-place-test.true c.index-masks-place.is invariant.missed in
    omega (arith, short, invariant.same, c.if-place-left.true)

pub returns-in-Some-clause-looked : goal.returns-in-Some-clause-looked
returns-in-Some-clause-looked c =
    let invariant = c.loop-place.invariant in
    let met : met_in c.args.key.now.words (plain_mask c.index-masks-place.result) ≡ Some c.in-Some.filter.now = sym c.met.ensures ∙ ap option_copied c.in-Some.is in
    let here = met_here c.args.key.now.words c.args.masks.now c.loop-place.place c.index-masks-place.result c.loop-place-test.true c.index-masks-place.is invariant.missed c.in-Some.filter.now met in
    (omega (arith, here.0, invariant.same, invariant.enough, c.if-place-left.false), here.1)

pub returns-clause-looked : goal.returns-clause-looked
returns-clause-looked c =
    let invariant = c.loop-place.invariant in
    let all = all_missed c.args.key.now.words c.args.masks.now c.loop-place.place c.loop-place-test.false invariant.missed in
    (omega (arith, all.0, invariant.same, invariant.enough, c.loop-place-test.false), all.1)
