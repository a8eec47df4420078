use Rattle.std.proofs.Common.{◌+◌, ◌-◌, ◌/◌, ◌<◌, length, arith}
use Rattle.std.proofs.lemmas.Grind.{common_steps}
use Rattle.filter_tables.proofs.Rising.{full_before, high_behind, free_number, used_below}
use Rattle.filter_tables.proofs.handles.lowest_free.Goals as goal

pub loop-low-preserved-then-handles-middle : goal.loop-low-preserved-then-handles-middle
loop-low-preserved-then-handles-middle c =
    let all = c.loop-low.invariant in
    let middle = c.loop-low.low + (c.loop-low.high - c.loop-low.low) / 2 in
    let less = c.loop-low-test.true in
    let first : middle < c.loop-low.high = omega (arith, less) in
    let within : middle < length c.args.handles.now = omega (arith, first, all.1) in (
      omega (arith, first),
      all.1,
      full_before c.args.handles.now middle c.requires.rising c.requires.from_one within (λ d. grind (arith, common_steps)),
      all.3,
    )

pub loop-low-preserved : goal.loop-low-preserved
loop-low-preserved c =
    let all = c.loop-low.invariant in
    let middle = c.loop-low.low + (c.loop-low.high - c.loop-low.low) / 2 in
    let less = c.loop-low-test.true in
    let first : middle < c.loop-low.high = omega (arith, less) in
    let within : middle < length c.args.handles.now = omega (arith, first, all.1) in (
      omega arith,
      omega (arith, within),
      all.2,
      high_behind c.args.handles.now middle c.requires.rising c.requires.from_one within (λ d same. c.if-handles-middle.false (grind (arith, common_steps))),
    )

pub returns-clause-free : goal.returns-clause-free
returns-clause-free c =
    let all = c.loop-low.invariant in
    free_number c.args.handles.now c.loop-low.low all.2 (λ k d up within. all.3 k d (omega (arith, c.loop-low-test.false, up)) within)

pub returns-clause-lowest : goal.returns-clause-lowest
returns-clause-lowest c =
    let all = c.loop-low.invariant in
    used_below c.args.handles.now c.loop-low.low (omega (arith, all.0, all.1)) all.2
