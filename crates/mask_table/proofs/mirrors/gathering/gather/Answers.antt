use Rattle.std.proofs.Common.{◌-◌, get_or, sym, subst, arith}
use Rattle.mask_table.proofs.OfMirrors.Spelling.{IsAhead, ahead_first, ahead_more, ahead_last}
use Rattle.mask_table.proofs.mirrors.gathering.gather.Goals as goal

pub loop-number-init : goal.loop-number-init
loop-number-init c = ahead_first c.args.next.now c.args.start c.args.chain.now c.requires.spelled.0 c.requires.spelled.1 (c.requires.few c.requires.spelled.0 c.requires.spelled.1)

pub push-requires : goal.push-requires
push-requires c = (ahead_more c.args.next.now c.args.start c.loop-number.number c.args.chain.now c.loop-number.chain c.loop-number.invariant c.loop-number-test.true).room

pub bounds-next-block : goal.bounds-next-block
bounds-next-block c = let low = (ahead_more c.args.next.now c.args.start c.loop-number.number c.args.chain.now c.loop-number.chain c.loop-number.invariant c.loop-number-test.true).low in
    let some = c.loop-number-test.true in let long = c.requires.long in omega arith

pub loop-number-preserved : goal.loop-number-preserved
loop-number-preserved c =
    let next = c.args.next.now in let start = c.args.start in let number = c.loop-number.number in let before = c.args.chain.now in
    subst (IsAhead next start (get_or next (number - 1) 0) before) (sym c.push.ensures) (ahead_more next start number before c.loop-number.chain c.loop-number.invariant c.loop-number-test.true).ahead

pub returns : goal.returns
returns c = ahead_last c.args.next.now c.args.start c.loop-number.number c.args.chain.now c.loop-number.chain c.loop-number.invariant c.loop-number-test.false
