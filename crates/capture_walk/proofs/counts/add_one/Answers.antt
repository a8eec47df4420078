use Rattle.std.proofs.Common.{◌≡◌, ◌+◌, ◌<◌, ◌≤◌, inl, inr, length, set, sym, ap, ◌∙◌, arith}
use Rattle.capture_walk.proofs.Counting.{count, one-outside, one-at}
use Rattle.capture_walk.proofs.counts.add_one.Goals as goal

pub returns-in_default : goal.returns-in_default
returns-in_default c =
    let none : c.args.serial < 1 = omega (arith, c.in_default.ensures) in
    sym (one-outside 1 c.args.counts.now (record { serial = c.args.serial; length = c.args.length }) (inl none))

pub returns-then-place-counts : goal.returns-then-place-counts
returns-then-place-counts c =
    let is : c.args.serial ≡ 1 + c.in-Some.place = omega (arith, c.in-Some.ensures.0, c.in-Some.ensures.1) in
    ap (set c.args.counts.now c.in-Some.place) c.with_one.ensures
    ∙ one-at 1 c.in-Some.place c.args.counts.now (record { serial = c.args.serial; length = c.args.length }) (count 0 0) is c.if-place-counts.true

pub returns-else-place-counts : goal.returns-else-place-counts
returns-else-place-counts c =
    let behind : 1 + length c.args.counts.now ≤ c.args.serial = omega (arith, c.in-Some.ensures.0, c.in-Some.ensures.1) in
    sym (one-outside 1 c.args.counts.now (record { serial = c.args.serial; length = c.args.length }) (inr behind))
