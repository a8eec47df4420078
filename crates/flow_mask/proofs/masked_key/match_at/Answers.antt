use Rattle.std.proofs.Common.{refl, arith}
use Rattle.std.proofs.lemmas.Bool.{false≢true}
use Rattle.flow_mask.proofs.Places.{is_same_at, same_everywhere}
use Rattle.flow_mask.proofs.masked_key.match_at.Goals as goal

pub returns-then-frame-i : goal.returns-then-frame-i
returns-then-frame-i c = (
  λ impossible. absurd (false≢true impossible),
  λ same. absurd (c.if-frame-i.true (is_same_at c.args.frame.now c.args.mask.now c.args.key.now _ same)),
)

pub returns : goal.returns
returns c = (
  λ _. same_everywhere c.args.frame.now c.args.mask.now c.args.key.now c.args.places.now c.args.count
      c.requires.frame c.requires.mask c.requires.key c.requires.under c.requires.places (λ j here. c.loop-n.invariant j (omega arith)),
  λ _. refl,
)
