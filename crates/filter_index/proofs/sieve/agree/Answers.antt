use borrow.Author.Count.{below_more}
use Rattle.std.proofs.Common.{get_or, arith}
use Rattle.filter_index.proofs.Covering.{IsSameAt, agree_all, agree_not}
use Rattle.filter_index.proofs.sieve.agree.Goals as goal

pub returns-then-frame-place : goal.returns-then-frame-place
returns-then-frame-place c = agree_not c.args.frame.now c.args.mask.now c.args.key.now _ c.if-frame-place.true

pub returns : goal.returns
returns c =
    agree_all c.args.frame.now c.args.mask.now c.args.key.now c.args.places.now c.args.count 14 c.requires.frame c.requires.mask c.requires.key c.requires.within c.requires.listed
    (λ j here. c.loop-n.invariant j (omega arith))

pub loop-n-preserved : goal.loop-n-preserved
loop-n-preserved c =
    below_more (λ j. IsSameAt c.args.frame.now c.args.mask.now c.args.key.now (get_or c.args.places.now j 0)) c.loop-n.n c.loop-n.invariant c.if-frame-place.false

pub bounds-frame-place : goal.bounds-frame-place
bounds-frame-place c = rw c.requires.frame (c.requires.listed.below c.loop-n.n c.loop-n-test.true)

pub bounds-mask-place : goal.bounds-mask-place
bounds-mask-place c = rw c.requires.mask (c.requires.listed.below c.loop-n.n c.loop-n-test.true)

pub bounds-key-place : goal.bounds-key-place
bounds-key-place c = rw c.requires.key (c.requires.listed.below c.loop-n.n c.loop-n-test.true)
