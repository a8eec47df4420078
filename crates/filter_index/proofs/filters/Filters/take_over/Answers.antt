use Rattle.std.proofs.Common.{arith, ap, sym, ◌∙◌, subst, length, [], ◌∷◌}
use Rattle.std.specs.Vec.Iter.{into_iter_items}
use Rattle.std.proofs.lemmas.List.{length-append}
use Rattle.filter_index.specs.Listed.{AreApart, those_there}
use Rattle.filter_index.proofs.Apart.{handle_before, key_before}
use Rattle.filter_index.proofs.Calls.{next_moved, pushed_next, none_moved}
use Rattle.filter_index.proofs.filters.Filters.take_over.Goals as goal

pub push-requires-clause-room : goal.push-requires-clause-room
push-requires-clause-room c =
    let moved = c.loop-slot.self.filters in
    let items = into_iter_items c.loop-slot.slot-iterator in
    let rest = into_iter_items c.next.new.self in
    let whole = next_moved moved c.in-Some.slot c.in-Some-slot.filter items rest c.args.from.filters c.in-Some.ensures.steps.0 c.in-Some-slot.is c.loop-slot.invariant.0 in
    omega (arith, ap length whole, length-append moved (c.in-Some-slot.filter ∷ those_there rest))

pub push-requires-clause-handle : goal.push-requires-clause-handle
push-requires-clause-handle c =
    let moved = c.loop-slot.self.filters in
    let items = into_iter_items c.loop-slot.slot-iterator in
    let rest = into_iter_items c.next.new.self in
    let whole = next_moved moved c.in-Some.slot c.in-Some-slot.filter items rest c.args.from.filters c.in-Some.ensures.steps.0 c.in-Some-slot.is c.loop-slot.invariant.0 in
    handle_before moved c.in-Some-slot.filter (those_there rest)
    (subst AreApart (ap (λ v. v.filters) c.from.view_is ∙ sym whole) c.from.invariant.apart)

pub push-requires-clause-key : goal.push-requires-clause-key
push-requires-clause-key c =
    let moved = c.loop-slot.self.filters in
    let items = into_iter_items c.loop-slot.slot-iterator in
    let rest = into_iter_items c.next.new.self in
    let whole = next_moved moved c.in-Some.slot c.in-Some-slot.filter items rest c.args.from.filters c.in-Some.ensures.steps.0 c.in-Some-slot.is c.loop-slot.invariant.0 in
    key_before moved c.in-Some-slot.filter (those_there rest)
    (subst AreApart (ap (λ v. v.filters) c.from.view_is ∙ sym whole) c.from.invariant.apart)

pub loop-slot-preserved-in-Some-slot : goal.loop-slot-preserved-in-Some-slot
loop-slot-preserved-in-Some-slot c =
    let moved = c.loop-slot.self.filters in
    let f = c.in-Some-slot.filter in
    let items = into_iter_items c.loop-slot.slot-iterator in
    let rest = into_iter_items c.next.new.self in
    let whole = next_moved moved c.in-Some.slot f items rest c.args.from.filters c.in-Some.ensures.steps.0 c.in-Some-slot.is c.loop-slot.invariant.0 in (
      pushed_next moved c.push.new.self.filters (those_there rest) f c.args.from.filters c.push.ensures.filters whole,
      omega (arith, ap length c.push.ensures.filters, length-append moved (f ∷ []), c.loop-slot.invariant.1),
      tt,
      tt,
    )

pub loop-slot-preserved : goal.loop-slot-preserved
loop-slot-preserved c =
    let items = into_iter_items c.loop-slot.slot-iterator in
    let rest = into_iter_items c.next.new.self in (
      none_moved c.loop-slot.self.filters c.in-Some.slot items rest c.args.from.filters c.in-Some.ensures.steps.0 c.in_default.is c.loop-slot.invariant.0,
      c.loop-slot.invariant.1,
      tt,
      tt,
    )
