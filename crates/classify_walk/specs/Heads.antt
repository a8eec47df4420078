-- Masks told behind those of the last head (this project's own).
use Rattle.std.specs.Prelude.{ℕ, List, [], ◌∷◌, ◌++◌}
use Rattle.walk_rules.specs.Questions.{Head}

-- masks behind those of the last head
abbrev pub with_masks_behind : List ℕ → List Head → List Head
with_masks_behind masks [] = []
with_masks_behind masks (head ∷ []) = record head { masks = head.masks ++ masks } ∷ []
with_masks_behind masks (head ∷ next ∷ heads) = head ∷ with_masks_behind masks (next ∷ heads)
