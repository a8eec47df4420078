-- What is known stays known.
use Rattle.std.proofs.Common.{◌≡◌, ℕ, List, [], ◌∷◌, sym, subst}
use Rattle.filter_state.specs.Sound.{Each}
use Rattle.filter_state.proofs.Pairs.{each_weaker}
use Rattle.visit_room.specs.declared.names.MaskName.{MaskName}
use Rattle.visit_room.specs.declared.names.ActionName.{ActionName}
use Rattle.visit_room.specs.declared.table_head.TableHead.{TableHead}
use Rattle.walk_steps.specs.Told.{MasksKnown}

-- the masks of other tables that are the same, and actions
pub masks_still : (known still : ℕ → MaskName → Type 0) → ((table : ℕ) (mask : MaskName) → known table mask → still table mask) →
    (heads given : List TableHead) → given ≡ heads → MasksKnown known heads → MasksKnown still given
masks_still known still goes heads given same each =
    let P : List TableHead → Type 0 = λ xs. MasksKnown still xs in
    subst P (sym same)
    (each_weaker (λ (head : TableHead). Each (known head.serial) head.masks) (λ (head : TableHead). Each (still head.serial) head.masks)
    (λ head masks. each_weaker (known head.serial) (still head.serial) (goes head.serial) head.masks masks) heads each)

pub actions_still : (known still : ActionName → Type 0) → ((action : ActionName) → known action → still action) →
    (actions given : List ActionName) → given ≡ actions → Each known actions → Each still given
actions_still known still goes actions given same each =
    let P : List ActionName → Type 0 = λ xs. Each still xs in
    subst P (sym same) (each_weaker known still goes actions each)

-- nobody is asked for actions any more
pub none_known : (known : ActionName → Type 0) (actions : List ActionName) → actions ≡ [] → Each known actions
none_known known actions none = let P : List ActionName → Type 0 = λ xs. Each known xs in subst P (sym none) tt
