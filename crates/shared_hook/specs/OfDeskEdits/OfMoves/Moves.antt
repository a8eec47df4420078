-- A filter that moves to another key or mask (this project's own). `h` is all commits before the one that
-- carries the edit, and y is the edit.
use Rattle.std.specs.Prelude.{◌≡◌, ◌≢◌, ◌⊎◌, ℕ, ◌+◌, ◌-◌, ◌<◌, ◌≤◌, List, [], ◌∷◌, ◌++◌, map, Option, Some}
use Rattle.std.specs.Prelude.{None}
use Rattle.tc_base.specs.declared.hook.Hook.{Hook}
use Rattle.visit_room.specs.declared.names.MaskName.{MaskName}
use Rattle.store_history.specs.declared.history.Commit.{Commit}
use Rattle.store_history.specs.History.{edits_of}
use Rattle.pin_store.specs.declared.shape.Shape.{Shape}
use Rattle.pin_store.specs.Sheets.{IsSameButCells}
use Rattle.pin_store.specs.Calls.{sheet_of}
use Rattle.filter_state.specs.declared.edit.Edit.{Edit}
use Rattle.filter_state.specs.declared.edit.FilterLine.{FilterLine}
use Rattle.filter_state.specs.declared.refusal.Done.{Done}
use Rattle.hook_store_law.specs.OfEffects.Parts.{Stands}
use Rattle.miniq_pair.specs.Heads.{hook_number}
use Rattle.mask_writer.specs.Masks.{Masks}
use Rattle.hook_law.specs.Standing.{IsMaskAt}
use Rattle.hook_store_law.specs.Stated.{tables_at}
use Rattle.hook_store_law.specs.Blocks.{hook_codec}
use Rattle.hook_store_law.specs.OfEdits.Premises.{now, next, LeavesOtherHook}
use Rattle.desk_heads.specs.OfHeadCommits.Listed.{HasSerial}
use Rattle.desk_heads.specs.OfHeadCommits.Built.{IsBuilt}
use Rattle.desk_pools.specs.declared.pools.Pools.{Pools}
use Rattle.desk_pools.specs.Steps.{turned}
use Rattle.desk_actions.specs.OfLedgers.Kept.{commits}
use Rattle.desk_needs.specs.Live.{count_of}
use Rattle.desk_parts.specs.declared.parts.Parts.{Parts}
use Rattle.desk_parts.specs.Desk.{IsDesk}
use Rattle.shared_hook.specs.OfDeskEdits.Ahead.{GoesOnAside}
use Rattle.shared_hook.specs.OfDeskEdits.Parting.{IsParting}
use Rattle.shared_hook.specs.OfDeskEdits.OfMoves.Raises.{IsToLay}

-- of the masks to which the filter comes and which it leaves, those that stand after the edit were built,
-- each once, and no others
pub record AreBuiltFor (h : List (Commit Edit)) (y : Edit) (hook : Hook) (to from : ℕ) (built : List MaskName)
    : Type 0 where
  pub each : (mask slot : ℕ) → IsBuilt built mask slot → (mask ≡ to) ⊎ (mask ≡ from)
  pub to_built : (slot : ℕ) × IsBuilt built to slot
  pub from_built : Stands (next h y) from → (slot : ℕ) × IsBuilt built from slot
  pub once : (mask slot other : ℕ) → IsBuilt built mask slot → IsBuilt built mask other → slot ≡ other
  pub here : (mask slot : ℕ) → IsBuilt built mask slot
      → HasSerial (tables_at (next h y) (hook_number hook)) mask

-- the slot of the mask which the filter leaves, and that of the other one, where it stands
abbrev pub IsAtOld : List (Commit Edit) → ℕ → ℕ → ℕ → Option ℕ → Type 0
IsAtOld h to from slot None = IsMaskAt hook_codec h from slot
    × ((other : ℕ) → IsMaskAt hook_codec h to other → other ≡ slot)
IsAtOld h to from slot (Some other) = IsMaskAt hook_codec h from slot × IsMaskAt hook_codec h to other
    × (other ≢ slot)

-- THE FILTER MOVES: the edit changes two masks of the hook, or one that is both, and no other
pub record IsToMove (h : List (Commit Edit)) (y : Edit) (hook : Hook) (built : List MaskName) (slot : ℕ)
    (into : Option ℕ) (to from : ℕ) : Type 0 where
  pub leaves : LeavesOtherHook hook (λ mask. (mask ≡ to) ⊎ (mask ≡ from)) (now h) (next h y)
  pub built_for : AreBuiltFor h y hook to from built
  pub at : IsAtOld h to from slot into

-- ---- a filter that leaves its mask for another
-- so many filters the mask had to which the filter comes, where it stood
abbrev pub IsOther : (ℕ → ℕ) → ℕ → Option ℕ → ℕ → Type 0
IsOther count to None others = others ≡ 0
IsOther count to (Some slot) others = (count to ≡ others) × (0 < others)

-- the mask to which it comes was built, with the slot that is named; the one that it leaves has these words,
-- and had so many filters: where it had others, it is to be laid with these, and else it stands no more
pub record IsToLeave (h : List (Commit Edit)) (y : Edit) (line : FilterLine) (done : Done) (words : List ℕ)
    (first : MaskName) (slot count : ℕ) (into : Option ℕ) (others to from : ℕ) : Type 0 where
  pub apart : to ≢ from
  pub named : first.serial ≡ to
  pub here : HasSerial (tables_at (next h y) (hook_number line.hook)) to
  pub leaves : LeavesOtherHook line.hook (λ mask. (mask ≡ to) ⊎ (mask ≡ from)) (now h) (next h y)
  pub at : IsAtOld h to from slot into
  pub counted : count_of (now h) from ≡ count
  pub some : 0 < count
  pub other : IsOther (count_of (now h)) to into others
  pub lay : 1 < count → IsToLay h y line done words (count - 1) from
  pub gone : count ≤ 1 → Stands (next h y) from → ⊥

-- ---- masks at their old slots
-- the other slot, where there is one
abbrev pub other_slot : Option ℕ → List ℕ
other_slot None = []
other_slot (Some other) = other ∷ []

-- the slot of the mask which the filter leaves, and that of the one to which it comes, where that stood
abbrev pub old_slots : ℕ → Option ℕ → List ℕ
old_slots slot into = slot ∷ other_slot into

-- and the masks themselves
abbrev pub other_mask : ℕ → Option ℕ → List ℕ
other_mask to None = []
other_mask to (Some other) = to ∷ []

abbrev pub old_masks : ℕ → ℕ → Option ℕ → List ℕ
old_masks to from into = from ∷ other_mask to into

-- the writer of masks holds them, which are gone, and what they have is in no pool
pub record MayPartAll (masks : Masks) (pools : Pools) (slots : List ℕ) : Type 0 where
  pub shape : Shape
  pub cells : List ℕ
  pub h : List (Commit Edit)
  pub b : ℕ
  pub count : ℕ → ℕ
  pub names : List MaskName
  pub slots_are : map (λ (name : MaskName). name.slot) names ≡ slots
  pub parting : IsParting masks pools shape cells h b count [] names

-- ---- afterwards
-- THE EDIT IS MADE: a desk again, one edit further, with the place of the hook's tables turned
pub record IsMovedOn (old new : Parts) (y : Edit) (hook : Hook) : Type 0 where
  pub desk : IsDesk new
  pub point : new.ledger.point ≡ old.ledger.point + 1
  pub journal : edits_of (commits new.ledger) ≡ edits_of (commits old.ledger) ++ y ∷ []
  pub aside : GoesOnAside (commits old.ledger) (commits new.ledger)
  pub sheet : IsSameButCells (sheet_of old.ledger.writer.place) (sheet_of new.ledger.writer.place)
  pub ingress : new.pools.ingress ≡ (turned hook old.pools).ingress
  pub egress : new.pools.egress ≡ (turned hook old.pools).egress
  pub slots : new.pools.actions ≡ old.pools.actions
  pub rest : new ≡ record old {
    ledger = new.ledger;
    pools = new.pools;
    masks = new.masks;
    ingress = new.ingress;
    egress = new.egress;
    room = new.room;
  }
