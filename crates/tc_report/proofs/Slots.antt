-- The slots of a mask, of which some may be empty.
use Rattle.std.proofs.Common.{◌≡◌, ◌∙◌, ℕ, ◌≤◌, length, take, List, [], ◌∷◌, ◌++◌, Option, Some, None, refl, sym, ap}
use Rattle.std.specs.Prelude.{map}
use Rattle.std.specs.List.{flat_map}
use Rattle.filter_index.specs.Listed.{those_there}
use Rattle.tc_report.specs.Steps.{slot_shown}
use Rattle.tc_report.proofs.Lines.{flat_mapped, take_whole}

slots_shown : {X : Type 0} (f : X → List ℕ) (slots : List (Option X)) → flat_map (slot_shown f) slots ≡ flat_map f (those_there slots)
slots_shown f [] = refl
slots_shown f (Some x ∷ slots) = ap (λ (t : List ℕ). f x ++ t) (slots_shown f slots)
slots_shown f (None ∷ slots) = slots_shown f slots

pub rows_shown : {X Y : Type 0} (f : Y → List ℕ) (g : X → Y) (slots : List (Option X)) (k : ℕ) (xs : List X) → length slots ≤ k → those_there slots ≡ xs →
    flat_map (slot_shown (λ x. f (g x))) (take k slots) ≡ flat_map f (map g xs)
rows_shown f g slots k xs all is =
    ap (flat_map (slot_shown (λ x. f (g x)))) (take_whole slots k all) ∙ slots_shown (λ x. f (g x)) slots ∙ ap (flat_map (λ x. f (g x))) is ∙ sym (flat_mapped f g xs)
