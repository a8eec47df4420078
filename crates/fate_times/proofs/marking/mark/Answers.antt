use Rattle.std.proofs.Common.{◌∙◌, arith, length-set}
use Rattle.walk_fate_laws.specs.declared.kinds.When.TheVariants as whens
use Rattle.walk_fate_laws.specs.Stays.{fate_at_end}
use Rattle.fate_times.proofs.OneByOne.{mark_one}
use Rattle.fate_times.proofs.marking.mark.Goals as goal

pub loop-place-preserved : goal.loop-place-preserved
loop-place-preserved c =
    let place = c.loop-place.place in let inv = c.loop-place.invariant in
    record {
      each = length-set c.loop-place.whens place c.also_seen.result ∙ inv.each;
      so_far = λ when is. mark_one (fate_at_end c.args.walk.now.standing) c.args.seen when place
          c.args.fates.now c.loop-place.whens c.has_fate-had.result c.also_seen.result whens.Before
          (omega (arith, c.loop-place-test.true, c.requires.each)) (inv.so_far when is) c.has_fate-had.ensures
          c.also_seen.ensures;
    }
