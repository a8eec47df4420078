use Rattle.std.proofs.Common.{◌≡◌, ◌-◌, suc, length, get_or, None, refl, sym, ◌∙◌, arith}
use Rattle.filter_index.specs.Chains.{chain_of}
use Rattle.filter_index.proofs.Walking.{next_is, at_next, next_falls, same_last, same_behind, found_here, digest_same, digest_differs}
use Rattle.filter_index.proofs.chains.skip.Goals as goal

pub returns-then-eq : goal.returns-then-eq
returns-then-eq c =
    let at = c.loop-at.at in
    let number : at ≡ suc (at - 1) = omega (arith, c.loop-at-test.true) in
    found_here (length c.args.heads.now) c.args.heads.now c.args.digests.now c.args.nexts.now c.requires.linked c.args.digest at (at - 1) number
    (digest_same c.args.digest (get_or c.args.digests.now (at - 1) None) (sym c.eq.ensures ∙ c.if-eq.true))
    ∙ c.loop-at.invariant.same

pub loop-at-smaller : goal.loop-at-smaller
loop-at-smaller c =
    let at = c.loop-at.at in
    let size = length c.args.heads.now in
    let number : at ≡ suc (at - 1) = omega (arith, c.loop-at-test.true) in
    next_falls size c.args.heads.now c.args.digests.now c.args.nexts.now c.requires.linked (chain_of size c.args.digest) at (at - 1) (get_or c.args.nexts.now (at - 1) 0)
    c.loop-at.invariant.here number refl

pub loop-at-preserved : goal.loop-at-preserved
loop-at-preserved c =
    let at = c.loop-at.at in
    let size = length c.args.heads.now in
    let next = get_or c.args.nexts.now (at - 1) 0 in
    let number : at ≡ suc (at - 1) = omega (arith, c.loop-at-test.true) in
    record {
      here = at_next size c.args.heads.now c.args.digests.now c.args.nexts.now c.requires.linked (chain_of size c.args.digest) at (at - 1) next c.loop-at.invariant.here number refl;
      same = same_last size c.args.heads.now c.args.digests.now c.args.nexts.now c.requires.linked c.args.digest (at - 1) next
          (next_is size c.args.heads.now c.args.digests.now c.args.nexts.now c.requires.linked (chain_of size c.args.digest) at (at - 1) next c.loop-at.invariant.here number refl)
          ∙ same_behind size c.args.heads.now c.args.digests.now c.args.nexts.now c.requires.linked c.args.digest at (at - 1) number
          (digest_differs c.args.digest (get_or c.args.digests.now (at - 1) None) (sym c.eq.ensures ∙ c.if-eq.false))
          ∙ c.loop-at.invariant.same;
    }
