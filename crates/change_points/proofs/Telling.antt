-- The masks of a table, told one by one.
use Rattle.std.proofs.Common.{◌≡◌, ◌∙◌, ℕ, ◌+◌, List, [], ◌∷◌, ◌++◌, take, sym, ap}
use Rattle.visit_room.specs.declared.table_head.TableHead.{TableHead}
use Rattle.visit_room.specs.Heads.{with_mask_behind}
use Rattle.walk_steps.specs.Told.{heads_told}
use Rattle.classify_walk.specs.Heads.{with_masks_behind}
use Rattle.classify_walk.proofs.Telling.{told_more, behind_both}

pub one_told : (serials : List ℕ) (at serial slot : ℕ) (start old new : List TableHead)
    → new ≡ with_mask_behind (record { serial = serial; slot = slot }) old
    → take (at + 1) serials ≡ take at serials ++ (serial ∷ [])
    → heads_told old ≡ with_masks_behind (take at serials) (heads_told start)
    → heads_told new ≡ with_masks_behind (take (at + 1) serials) (heads_told start)
one_told serials at serial slot start old new is taken so_far =
    ap heads_told is ∙ told_more (record { serial = serial; slot = slot }) old
    ∙ ap (with_masks_behind (serial ∷ [])) so_far ∙ behind_both (take at serials) (serial ∷ []) (heads_told start)
    ∙ ap (λ (ns : List ℕ). with_masks_behind ns (heads_told start)) (sym taken)
