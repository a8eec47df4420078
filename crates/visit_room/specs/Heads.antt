-- The tables of a hook, and how they are told one after the other (this project's own).
use Rattle.std.specs.Prelude.{ℕ, ◌<◌, List, [], ◌∷◌, ◌++◌, length, Option, Some, None}
use Rattle.tc_base.specs.declared.hook.Proto.{Proto}
use Rattle.visit_room.specs.declared.names.MaskName.{MaskName}
use Rattle.visit_room.specs.declared.table_head.TableHead.{TableHead}

-- The tables that are told, and those that were told before they were let go. These stand until another table
-- is told, and while they stand, none is told.
pub record Heads : Type 0 where
  pub tables : List TableHead
  pub spare : List TableHead

-- a table of which no mask was told yet
abbrev pub bare_head : ℕ → ℕ → ℕ → Proto → TableHead
bare_head serial chain pref protocol = record {
  serial = serial;
  chain = chain;
  pref = pref;
  protocol = protocol;
  masks = [];
}

-- the masks of the last table
abbrev pub last_masks : List TableHead → Option (List MaskName)
last_masks [] = None
last_masks (head ∷ []) = Some head.masks
last_masks (head ∷ next ∷ heads) = last_masks (next ∷ heads)

-- there is a last table, and it has fewer masks than that
abbrev pub IsBelow : ℕ → Option (List MaskName) → Type 0
IsBelow most None = ⊥
IsBelow most (Some masks) = length masks < most

-- the same tables, where the last has one mask more, behind its others
abbrev pub with_mask_behind : MaskName → List TableHead → List TableHead
with_mask_behind mask [] = []
with_mask_behind mask (head ∷ []) = record head { masks = head.masks ++ (mask ∷ []) } ∷ []
with_mask_behind mask (head ∷ next ∷ heads) = head ∷ with_mask_behind mask (next ∷ heads)
