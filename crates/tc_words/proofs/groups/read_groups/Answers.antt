use Rattle.std.proofs.Common.{◌∙◌, ◌+◌, ◌^◌, sym, arith, Some}
use Rattle.tc_words.proofs.Parts.{parts_cut_at}
use Rattle.tc_words.proofs.GroupLists.{value_cut, value_cut_bad, value_last, count_cut, count_above, count_last, groups_of-no_value, groups_of-many, groups_of-all, room, room_within, some_radix}
use Rattle.tc_words.proofs.groups.read_groups.Goals as goal

pub returns-then-count-greatest-clause-value : goal.returns-then-count-greatest-clause-value
returns-then-count-greatest-clause-value c =
    let above = count_above c.loop-group.count c.loop-group.rest.now c.in-Some.group.now c.in-Some.more.now _ (sym c.in-Some.ensures) c.loop-group.invariant.counts in
    sym (groups_of-many c.args.least c.args.most c.args.greatest _ (omega (arith, above, c.if-count-greatest.true)))

pub push_group-requires-clause-room : goal.push_group-requires-clause-room
push_group-requires-clause-room c =
    room_within (16 ^ c.args.most) c.loop-group.number c.loop-group.count c.args.greatest _ c.loop-group.invariant.below c.loop-group.invariant.inside c.requires.room (some_radix c.args.most)

pub returns-in_err-number-clause-value : goal.returns-in_err-number-clause-value
returns-in_err-number-clause-value c =
    let bad = value_cut_bad c.args.least c.args.most c.loop-group.number c.loop-group.rest.now c.in-Some.group.now c.in-Some.more.now _ (sym c.in-Some.ensures) c.in_err-number.ensures.value c.loop-group.invariant.value in
    c.from_residual.ensures ∙ sym (groups_of-no_value c.args.least c.args.most c.args.greatest _ bad)

pub loop-group-preserved : goal.loop-group-preserved
loop-group-preserved c = record {
  value = value_cut c.args.least c.args.most c.loop-group.number (Some c.in_ok-number.number) c.loop-group.rest.now c.in-Some.group.now c.in-Some.more.now _ (sym c.in-Some.ensures) c.in_ok-number.ensures.value c.loop-group.invariant.value;
  counts = count_cut c.loop-group.count c.loop-group.rest.now c.in-Some.group.now c.in-Some.more.now _ (sym c.in-Some.ensures) c.loop-group.invariant.counts;
  inside = omega (arith, c.loop-group.invariant.inside, c.if-count-greatest.false);
  below = omega (arith, c.in_ok-number.ensures.below, room (16 ^ c.args.most) c.loop-group.number c.loop-group.count c.loop-group.invariant.below);
}

pub loop-group-smaller : goal.loop-group-smaller
loop-group-smaller c = (parts_cut_at 58 c.loop-group.rest.now c.in-Some.group.now c.in-Some.more.now (sym c.in-Some.ensures)).0

pub push_group-requires-2-clause-room : goal.push_group-requires-2-clause-room
push_group-requires-2-clause-room c =
    room_within (16 ^ c.args.most) c.loop-group.number c.loop-group.count c.args.greatest _ c.loop-group.invariant.below c.loop-group.invariant.inside c.requires.room (some_radix c.args.most)

pub returns-in_err-number-2-clause-value : goal.returns-in_err-number-2-clause-value
returns-in_err-number-2-clause-value c =
    let none = value_last c.args.least c.args.most c.loop-group.number _ c.loop-group.rest.now _ (sym c.in_default.ensures) c.in_err-number-2.ensures.value c.loop-group.invariant.value in
    c.from_residual-in_err-number-2.ensures ∙ sym (groups_of-no_value c.args.least c.args.most c.args.greatest _ none)

pub returns-clause-value : goal.returns-clause-value
returns-clause-value c =
    let all = value_last c.args.least c.args.most c.loop-group.number _ c.loop-group.rest.now _ (sym c.in_default.ensures) c.in_ok-number-2.ensures.value c.loop-group.invariant.value in
    let count = count_last c.loop-group.count c.loop-group.rest.now _ (sym c.in_default.ensures) c.loop-group.invariant.counts in
    sym (groups_of-all c.args.least c.args.most c.args.greatest (c.loop-group.count + 1) c.in_ok-number-2.number _ count (omega (arith, c.loop-group.invariant.inside)) all)

pub returns-clause-below : goal.returns-clause-below
returns-clause-below c = omega (arith, c.in_ok-number-2.ensures.below, room (16 ^ c.args.most) c.loop-group.number c.loop-group.count c.loop-group.invariant.below)
