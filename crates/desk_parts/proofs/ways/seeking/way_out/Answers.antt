use Rattle.std.proofs.Common.{◌<◌, arith, refl, rules}
use Rattle.desk_parts.proofs.OfWays.Looked.{mask_with, mask_few, has_one}
use Rattle.desk_parts.proofs.ways.seeking.way_out.Goals as goal

pub overflow_cast-result : goal.overflow_cast-result
overflow_cast-result c =
    let is = c.in-Some.ensures.some in
    let few = mask_few c.args.parts.now c.requires.desk is.row.mask_serial c.in-Some.field-0.mask is.stands in
    let small : c.in-Some.field-0.mask.count < 4294967296 = omega (arith, few) in
    search rules

pub returns-clause-few : goal.returns-clause-few
returns-clause-few c =
    let is = c.in-Some.ensures.some in
    let few = mask_few c.args.parts.now c.requires.desk is.row.mask_serial c.in-Some.field-0.mask is.stands in
    let with = mask_with c.args.parts.now c.requires.desk is.row.mask_serial c.in-Some.field-0.mask is.stands in
    let some = has_one c.args.parts.now c.requires.desk is.row _ _ _ _ is.there in
    let same = with.counted in
    (omega (arith, some, same), few, c.later_than.ensures.few)

pub returns-clause-way : goal.returns-clause-way
returns-clause-way c = λ protocol.
    let is = c.in-Some.ensures.some in
    let with = mask_with c.args.parts.now c.requires.desk is.row.mask_serial c.in-Some.field-0.mask is.stands in
    let some = has_one c.args.parts.now c.requires.desk is.row _ _ _ _ is.there in
    let same = with.counted in
    let many = c.if-mask-eq1.false in
    record {
      hook = c.args.hook;
      protocol = protocol;
      chain = c.args.chain;
      pref = c.args.pref;
      handle = c.args.handle;
      row = is.row;
      is = refl;
      there = is.there;
      mask = with;
      others = omega (arith, some, same, many);
      behind = c.later_than.ensures.behind is.row (record { hook = c.args.hook; chain = c.args.chain; pref = c.args.pref; found = is.there }) with.at;
    }
