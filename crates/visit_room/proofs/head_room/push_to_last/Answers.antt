use Rattle.std.proofs.Common.{◌≡◌, ◌-◌, suc, length, arith}
use Rattle.visit_room.proofs.LastHead.{last_below, put_behind}
use Rattle.visit_room.proofs.head_room.push_to_last.Goals as goal

pub push-requires : goal.push-requires
push-requires c =
    let heads = c.args.heads.now in
    let last : suc (length heads - 1) ≡ length heads = omega (arith, c.in-Some.ensures.item) in
    last_below 16 heads (length heads - 1) c.in-Some.head.now last c.in-Some.ensures.item.1 c.requires

pub returns : goal.returns
returns c =
    let heads = c.args.heads.now in
    let last : suc (length heads - 1) ≡ length heads = omega (arith, c.in-Some.ensures.item) in
    put_behind c.args.mask heads (length heads - 1) c.in-Some.head.now c.push.new.self last c.in-Some.ensures.item.1 c.push.ensures
