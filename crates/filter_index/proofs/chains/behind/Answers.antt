use Rattle.std.proofs.Common.{◌≡◌, ◌-◌, suc, length, get_or, refl, arith}
use Rattle.filter_index.specs.Chains.{is_on}
use Rattle.filter_index.proofs.LastOf.{reaches}
use Rattle.filter_index.proofs.Walking.{at_head, at_next, next_falls, still_above, is_behind}
use Rattle.filter_index.proofs.chains.behind.Goals as goal

pub loop-at-init : goal.loop-at-init
loop-at-init c =
    let size = length c.args.heads.now in
    let reached = reaches (is_on size c.args.chain) c.args.digests.now c.args.slot (length c.args.digests.now) c.requires.there c.requires.on in
    record {
      here = at_head size c.args.heads.now c.args.digests.now c.args.nexts.now c.requires.linked c.args.chain (get_or c.args.heads.now c.args.chain 0) c.requires.chain refl;
      above = omega (arith, reached, c.requires.linked.last c.args.chain c.requires.chain, c.if-at-number.false);
    }

pub loop-at-smaller : goal.loop-at-smaller
loop-at-smaller c =
    let at = c.loop-at.at in
    let number : at ≡ suc (at - 1) = omega (arith, c.loop-at.invariant.above) in
    next_falls (length c.args.heads.now) c.args.heads.now c.args.digests.now c.args.nexts.now c.requires.linked c.args.chain at (at - 1)
    (get_or c.args.nexts.now (at - 1) 0) c.loop-at.invariant.here number refl

pub loop-at-preserved : goal.loop-at-preserved
loop-at-preserved c =
    let at = c.loop-at.at in
    let next = get_or c.args.nexts.now (at - 1) 0 in
    let number : at ≡ suc (at - 1) = omega (arith, c.loop-at.invariant.above) in
    record {
      here = at_next (length c.args.heads.now) c.args.heads.now c.args.digests.now c.args.nexts.now c.requires.linked c.args.chain at (at - 1) next
          c.loop-at.invariant.here number refl;
      above = still_above (length c.args.heads.now) c.args.heads.now c.args.digests.now c.args.nexts.now c.requires.linked c.args.chain at (at - 1) next c.args.slot
          c.loop-at.invariant.here number refl c.loop-at.invariant.above c.requires.on c.loop-at-test.true;
    }

pub returns-clause-some : goal.returns-clause-some
returns-clause-some c =
    let at = c.loop-at.at in
    let number : at ≡ suc (at - 1) = omega (arith, c.loop-at.invariant.above) in
    is_behind (length c.args.heads.now) c.args.heads.now c.args.digests.now c.args.nexts.now c.requires.linked c.args.chain at (at - 1)
    (get_or c.args.nexts.now (at - 1) 0) c.args.slot c.loop-at.invariant.here number refl c.loop-at-test.false
