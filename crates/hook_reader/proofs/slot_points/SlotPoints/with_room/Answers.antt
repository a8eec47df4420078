use Rattle.std.proofs.Common.{◌≡◌, ◌∙◌, ℕ, ◌≤◌, List, length, replicate, refl, sym, ap, subst, le_refl}
use Rattle.std.specs.Prelude.{All}
use Rattle.std.proofs.lemmas.List.{length-replicate}
use Rattle.std.proofs.lemmas.List.Elements.{All-replicate}
use Rattle.store_history.specs.declared.places.TheConstants.{MASK_SLOTS}
use Rattle.hook_reader.specs.declared.slot_points.Mark.{Mark}
use Rattle.hook_reader.proofs.Points.{none_filled}
use Rattle.hook_reader.proofs.slot_points.SlotPoints.with_room.Goals as goal

-- copies of a mark are so many, and of its walk
all_of : (n : ℕ) (mark : Mark) (marks : List Mark) → marks ≡ replicate n mark → (length marks ≡ n) × All (λ (m : Mark). m.walk ≤ mark.walk) marks
all_of n mark marks filled = (ap length filled ∙ length-replicate n mark, subst (All (λ (m : Mark). m.walk ≤ mark.walk)) (sym filled) (All-replicate (λ (m : Mark). m.walk ≤ mark.walk) n mark (le_refl mark.walk)))

pub invariant_of-result : goal.invariant_of-result
invariant_of-result c = all_of MASK_SLOTS _ c.in_ok-vec.field-0.items (c.in_ok-vec.ensures.items_if_clones_equal (λ y h. h))

pub returns : goal.returns
returns c = none_filled _ MASK_SLOTS _ c.in_ok-vec.field-0.items refl (c.in_ok-vec.ensures.items_if_clones_equal (λ y h. h))
