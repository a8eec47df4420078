use Rattle.std.proofs.Common.{◌<◌, arith, rules}
use Rattle.desk_parts.proofs.OfWays.Looked.{count_few, has_one}
use Rattle.desk_parts.proofs.ways.seeking.way_over.Goals as goal

pub overflow_cast-result : goal.overflow_cast-result
overflow_cast-result c =
    let t = c.requires.there in
    let few = count_few c.args.parts.now c.requires.desk t.0.mask_serial in
    let same = t.4.counted in
    let small : c.args.mask.count < 4294967296 = omega (arith, few, same) in
    search rules

pub returns-in-None-clause-few : goal.returns-in-None-clause-few
returns-in-None-clause-few c =
    let t = c.requires.there in
    let few = count_few c.args.parts.now c.requires.desk t.0.mask_serial in
    let some = has_one c.args.parts.now c.requires.desk t.0 _ _ _ _ t.1 in
    let same = t.4.counted in
    (omega (arith, some, same), omega (arith, few, same), omega arith)

pub returns-in-Some-clause-few : goal.returns-in-Some-clause-few
returns-in-Some-clause-few c =
    let t = c.requires.there in
    let few = count_few c.args.parts.now c.requires.desk t.0.mask_serial in
    let some = has_one c.args.parts.now c.requires.desk t.0 _ _ _ _ t.1 in
    let same = t.4.counted in
    (omega (arith, some, same), omega (arith, few, same), c.in-Some.ensures.few)
