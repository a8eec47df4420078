use Rattle.std.proofs.Common.{◌∙◌, ◌++◌, ◌∷◌, List, [], length, map, take, vec_capacity, sym, ap, subst, arith}
use Rattle.std.specs.List.{AllByRecursion}
use Rattle.std.proofs.lemmas.List.{length-map}
use Rattle.filter_index.specs.Listed.{those_there}
use Rattle.block_codec.specs.declared.filter.StoredFilter.{StoredFilter}
use Rattle.shared_hook.specs.OfDeskEdits.OfMoves.Tells.{stored_at, CanBeTold}
use Rattle.shared_hook.proofs.OfDeskEdits.OfMoves.There.{item_there, all_there, fewer_there, one_told, none_told}
use Rattle.shared_hook.proofs.desk_edits.moves.telling.tell_all.Goals.{in-Some, in_default}
use Rattle.shared_hook.proofs.desk_edits.moves.telling.tell_all.Goals as goal

pub told-requires : goal.told-requires
told-requires c = let slots = c.slots-slots.result.now in let n = c.loop-slot.slot-index in
    let are = c.slots-slots.ensures.filters ∙ ap (λ r. r.filters) c.filters.ensures in
    all_there CanBeTold slots n c.in-Some.filter (subst (AllByRecursion CanBeTold) (sym are) c.requires.can) (item_there slots n c.slot-item.result c.in-Some.filter c.loop-slot-test.true c.slot-item.is c.in-Some.is)

pub push_reserved-requires : goal.push_reserved-requires
push_reserved-requires c = let slots = c.slots-slots.result.now in let n = c.loop-slot.slot-index in
    let are = ap length (c.slots-slots.ensures.filters ∙ ap (λ r. r.filters) c.filters.ensures) in
    let less = fewer_there slots n c.in-Some.filter (item_there slots n c.slot-item.result c.in-Some.filter c.loop-slot-test.true c.slot-item.is c.in-Some.is) in
    let told = ap length c.loop-slot.invariant.told ∙ length-map (those_there (take n slots)) (stored_at c.args.places.now) in let room = c.loop-slot.invariant.capacity in let few = c.requires.capacity in let long = c.loop-slot.into.ok.0 in
    omega (arith, are, less, told, room, few, long)

pub loop-slot-preserved : goal.loop-slot-preserved
loop-slot-preserved c = let slots = c.slots-slots.result.now in let n = c.loop-slot.slot-index in let inv = c.loop-slot.invariant in let f = stored_at c.args.places.now in
    elim c.match-slot.branch [
      | in-Some w ↦ record {
        told = ap (λ v. v.items) w.into-is ∙ (w.push_reserved.ensures.items ∙ (ap (λ (l : List StoredFilter). l ++ w.told.result ∷ []) inv.told
            ∙ (ap (λ (s : StoredFilter). map f (those_there (take n slots)) ++ s ∷ []) w.told.ensures ∙ sym (one_told f slots n c.slot-item.result c.loop-slot-test.true c.slot-item.is w.in-Some.filter w.in-Some.is))));
        capacity = ap (λ v. vec_capacity v) w.into-is ∙ (w.push_reserved.ensures.capacity ∙ inv.capacity);
      }
      | in_default w ↦ record {
        told = ap (λ v. v.items) w.into-is ∙ (inv.told ∙ sym (none_told f slots n c.slot-item.result c.loop-slot-test.true c.slot-item.is w.in_default.is));
        capacity = ap (λ v. vec_capacity v) w.into-is ∙ inv.capacity;
      }
    ]
