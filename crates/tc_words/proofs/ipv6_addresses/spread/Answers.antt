use Rattle.std.proofs.Common.{◌≤◌, ◌+◌, arith, ap}
use Rattle.tc_words.proofs.Ipv6Parts.{few_places, spread_room, spread_is, back_room}
use Rattle.tc_words.proofs.ipv6_addresses.spread.Goals as goal

pub pow-requires : goal.pow-requires
pow-requires c = omega (arith, few_places c.args.front_count)

pub overflow_mul-result : goal.overflow_mul-result
overflow_mul-result c =
    let few : c.args.front_count ≤ 7 = omega (arith, c.requires.counts) in
    omega (arith, spread_room c.args.front_count c.args.front few c.requires.front, spread_is c.args.front_count c.args.front c.pow.result few c.pow.ensures)

pub overflow_mul-result-2 : goal.overflow_mul-result-2
overflow_mul-result-2 c =
    let few : c.args.front_count ≤ 7 = omega (arith, c.requires.counts) in
    let back = back_room c.args.front_count c.args.back_count c.args.back c.requires.counts c.requires.back in
    omega (arith, back, spread_room c.args.front_count c.args.front few c.requires.front, spread_is c.args.front_count c.args.front c.pow.result few c.pow.ensures)

pub overflow_add-result : goal.overflow_add-result
overflow_add-result c =
    let few : c.args.front_count ≤ 7 = omega (arith, c.requires.counts) in
    let back = back_room c.args.front_count c.args.back_count c.args.back c.requires.counts c.requires.back in
    omega (arith, back, spread_room c.args.front_count c.args.front few c.requires.front, spread_is c.args.front_count c.args.front c.pow.result few c.pow.ensures)

pub returns : goal.returns
returns c =
    let few : c.args.front_count ≤ 7 = omega (arith, c.requires.counts) in
    record { value = ap (λ n. n + c.args.back) (spread_is c.args.front_count c.args.front c.pow.result few c.pow.ensures) }
