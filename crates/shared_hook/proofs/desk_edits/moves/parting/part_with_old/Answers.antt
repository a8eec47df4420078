use Rattle.std.proofs.Common.{◌∷◌, [], refl}
use Rattle.shared_hook.specs.OfDeskEdits.OfMoves.Moves.{other_slot}
use Rattle.shared_hook.proofs.OfDeskEdits.OfMoves.OldParts.{first_part, rest_part, one_parted, one_left, more_parted, tail_some, tail_none, part_as}
use Rattle.shared_hook.proofs.desk_edits.moves.parting.part_with_old.Goals as goal

pub part_with-requires-clause-may : goal.part_with-requires-clause-may
part_with-requires-clause-may c = first_part c.args.masks.now c.args.pools.now c.args.slot (other_slot c.args.into) c.requires.may

pub part_with-requires-in-Some-clause-may : goal.part_with-requires-in-Some-clause-may
part_with-requires-in-Some-clause-may c = let one = c.part_with in
    first_part one.new.masks one.new.pools c.in-Some.other []
    (part_as one.new.masks one.new.pools (other_slot c.args.into) (c.in-Some.other ∷ []) (tail_some c.args.into c.in-Some.other c.in-Some.is)
    (rest_part c.args.masks.now c.args.pools.now c.args.slot (other_slot c.args.into) c.requires.may one.new.masks one.new.pools one.ensures.parting one.ensures.left))

pub returns-in-Some-clause-parting : goal.returns-in-Some-clause-parting
returns-in-Some-clause-parting c = λ at. let one = c.part_with in let two = c.part_with-in-Some in let tail = other_slot c.args.into in
    let rest = part_as one.new.masks one.new.pools tail (c.in-Some.other ∷ []) (tail_some c.args.into c.in-Some.other c.in-Some.is)
    (rest_part c.args.masks.now c.args.pools.now c.args.slot tail at one.new.masks one.new.pools one.ensures.parting one.ensures.left) in
    one_parted one.new.masks one.new.pools c.in-Some.other [] rest two.new.masks two.new.pools two.ensures.parting two.ensures.left refl

pub returns-in-Some-clause-left : goal.returns-in-Some-clause-left
returns-in-Some-clause-left c = λ at. let one = c.part_with in let two = c.part_with-in-Some in let tail = other_slot c.args.into in
    let rest = part_as one.new.masks one.new.pools tail (c.in-Some.other ∷ []) (tail_some c.args.into c.in-Some.other c.in-Some.is)
    (rest_part c.args.masks.now c.args.pools.now c.args.slot tail at one.new.masks one.new.pools one.ensures.parting one.ensures.left) in
    more_parted c.args.masks.now c.args.pools.now c.args.slot tail at one.new.masks one.new.pools one.ensures.parting one.ensures.left two.new.pools
    (one_left one.new.masks one.new.pools c.in-Some.other [] rest two.new.masks two.new.pools two.ensures.parting two.ensures.left refl)

pub returns-in_default-clause-parting : goal.returns-in_default-clause-parting
returns-in_default-clause-parting c = λ at. let one = c.part_with in
    one_parted c.args.masks.now c.args.pools.now c.args.slot (other_slot c.args.into) at one.new.masks one.new.pools one.ensures.parting one.ensures.left (tail_none c.args.into c.in_default.is)

pub returns-in_default-clause-left : goal.returns-in_default-clause-left
returns-in_default-clause-left c = λ at. let one = c.part_with in
    one_left c.args.masks.now c.args.pools.now c.args.slot (other_slot c.args.into) at one.new.masks one.new.pools one.ensures.parting one.ensures.left (tail_none c.args.into c.in_default.is)
