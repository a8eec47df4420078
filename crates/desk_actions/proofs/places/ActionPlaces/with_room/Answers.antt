use Rattle.std.proofs.Common.{◌∙◌, ℕ, ◌<◌, List, length, get_or, ap, sym, subst}
use Rattle.std.proofs.lemmas.List.{length-replicate}
use Rattle.store_history.specs.declared.places.TheConstants.{ACTION_SLOTS}
use Rattle.desk_actions.proofs.Rooms.{zeros_are_small, nothing_here}
use Rattle.desk_actions.proofs.places.ActionPlaces.with_room.Goals as goal

pub invariant_of-result : goal.invariant_of-result
invariant_of-result c = let slots = c.in_ok-vec.ensures.items_if_clones_equal (λ y e. e) in let blocks = c.in_ok-vec-2.ensures.items_if_clones_equal (λ y e. e) in (
  ap (length {A = ℕ}) slots ∙ length-replicate {A = ℕ} 16385 0,
  ap (length {A = ℕ}) blocks ∙ length-replicate {A = ℕ} ACTION_SLOTS 0,
  (λ action. subst (λ (l : List ℕ). get_or l action 0 < ACTION_SLOTS) (sym slots) (zeros_are_small 16385 action)),
)

pub returns : goal.returns
returns c = let lengths = invariant_of-result c in nothing_here _ lengths.0 lengths.1
