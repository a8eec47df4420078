use Rattle.std.proofs.Common.{◌≡◌, ◌≤◌, length, min, ap, ◌∙◌, subst, arith}
use Rattle.flow_mask.specs.Places.{used_before, HasPlaces}
use Rattle.filter_index.specs.declared.digests.TheConstants.{SIEVE_WORDS}
use Rattle.filter_index.proofs.sieve.choose.Goals as goal

pub returns-clause-count : goal.returns-clause-count
returns-clause-count c =
    let all : c.loop-i.i ≡ 14 = omega arith in
    c.loop-i.invariant.count ∙ ap (λ n. min SIEVE_WORDS (used_before c.args.mask.now n)) all

pub returns-clause-listed : goal.returns-clause-listed
returns-clause-listed c =
    let all : c.loop-i.i ≡ length c.args.mask.now = omega arith in
    subst (λ n. used_before c.args.mask.now n ≤ SIEVE_WORDS → HasPlaces c.args.mask.now n c.loop-i.places c.loop-i.count) all c.loop-i.invariant.listed
