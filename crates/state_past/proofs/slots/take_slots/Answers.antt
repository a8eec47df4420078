use Rattle.std.proofs.Common.{◌∷◌, [], ℕ, List, None, refl, sym, subst, arith}
use Rattle.std.specs.Str.{bytes_eq}
use Rattle.std.proofs.lemmas.Slice.Eq.{bytes_eq-Decides}
use Rattle.slot_pasts.specs.Pasts.{stood}
use Rattle.slot_pasts.specs.Names.{past_of}
use Rattle.state_past.specs.declared.gone_filters.going.GoingFilter.{GoingFilter}
use Rattle.state_past.specs.Brought.{Brought}
use Rattle.state_past.specs.Told.{named_slot}
use Rattle.state_past.proofs.Bringing.{names, brought_up_to, brought_put, brought_then, brought_keys, map_more}
use Rattle.state_past.proofs.slots.take_slots.Goals as goal

pub put-requires : goal.put-requires
put-requires c = brought_up_to c.args.from stood (λ name. None) _ (past_of c.args.slots.now) (past_of c.loop-filter.slots) c.loop-filter.invariant c.slot_name.result

pub loop-filter-preserved : goal.loop-filter-preserved
loop-filter-preserved c = let g = c.filter-item.result in let past = past_of c.loop-filter.slots in let after = past_of c.put.new.self in
    let one = brought_put c.args.from stood (λ name. None) c.slot_name.result (bytes_eq c.slot_name.result) None past after (λ k same. (bytes_eq-Decides c.slot_name.result k).0 same) (λ k same. (bytes_eq-Decides c.slot_name.result k).1 same)
    (brought_up_to c.args.from stood (λ name. None) _ (past_of c.args.slots.now) past c.loop-filter.invariant) c.in_ok-put.ensures.put refl in
    let own = subst (λ (n : List ℕ). Brought c.args.from stood (λ name. None) (n ∷ []) past after) c.slot_name.ensures one in
    brought_keys c.args.from stood names (λ name. None) _ _ (past_of c.args.slots.now) after (map_more (λ (f : GoingFilter). named_slot f.mask f.key.words) c.args.going.now c.loop-filter.filter-index g (omega (arith, c.loop-filter-test.true)) (sym c.filter-item.is))
    (brought_then c.args.from stood names (λ name. None) _ _ (past_of c.args.slots.now) past after c.loop-filter.invariant own)
