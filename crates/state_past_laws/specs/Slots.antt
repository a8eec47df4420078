-- What stands under a mask and a key, and what an edit changes of it (this project's own).
use Rattle.std.specs.Prelude.{◌≡◌, ℕ, ◌==◌, ◌&&◌, Bool, true, false, List, [], ◌∷◌, Option, Some, None}
use Rattle.std.specs.Prelude.{if◌then◌else◌}
use Rattle.std.specs.Str.{bytes_eq}
use Rattle.filter_state.specs.States.{Row}
use Rattle.filter_state.specs.Sound.{Each}
use Rattle.filter_state.specs.Tables.{first_where}
use Rattle.edit_effects.specs.OfEffects.Parts.{Filter}

-- the row of that mask and key; two rows of a sound state never have both
abbrev pub is_slot : ℕ → List ℕ → Row → Bool
is_slot mask key row = row.mask_serial == mask && bytes_eq row.key key

abbrev pub actions_or : Option Row → Option (List ℕ)
actions_or None = None
actions_or (Some row) = Some row.actions

-- WHAT STANDS THERE: the actions of the row, or nothing
abbrev pub slot_in : List Row → ℕ → List ℕ → Option (List ℕ)
slot_in rows mask key = actions_or (first_where (is_slot mask key) rows)

-- the same, of the filters of the mask
abbrev pub slot_among : List Filter → List ℕ → Option (List ℕ)
slot_among [] key = None
slot_among (f ∷ filters) key = if bytes_eq f.key key then Some f.actions else slot_among filters key

-- whether something stands there, and its actions
abbrev pub is_taken : Option (List ℕ) → Bool
is_taken None = false
is_taken (Some actions) = true

abbrev pub actions_in : Option (List ℕ) → List ℕ
actions_in None = []
actions_in (Some actions) = actions

-- ---- changes
pub record SlotChange : Type 0 where
  pub mask : ℕ
  pub key : List ℕ
  pub actions : Option (List ℕ)

abbrev pub concerns : ℕ → List ℕ → SlotChange → Bool
concerns mask key change = change.mask == mask && bytes_eq change.key key

-- what stands there after changes, one after the other
abbrev pub after_changes : List SlotChange → ℕ → List ℕ → Option (List ℕ) → Option (List ℕ)
after_changes [] mask key o = o
after_changes (change ∷ changes) mask key o =
    after_changes changes mask key (if concerns mask key change then change.actions else o)

-- WHAT AN EDIT CHANGES: each slot has what the last of these changes puts there, or what it had
abbrev pub Overrides : List Row → List Row → List SlotChange → Type 0
Overrides rows others changes = (mask : ℕ) (key : List ℕ)
    → slot_in others mask key ≡ after_changes changes mask key (slot_in rows mask key)

abbrev pub put_there : Row → SlotChange
put_there row = record { mask = row.mask_serial; key = row.key; actions = Some row.actions }

abbrev pub taken_there : Row → SlotChange
taken_there row = record { mask = row.mask_serial; key = row.key; actions = None }

abbrev pub changed_there : Row → List ℕ → SlotChange
changed_there old serials = record { mask = old.mask_serial; key = old.key; actions = Some serials }

-- they take away alone
abbrev pub AreTaken : List SlotChange → Type 0
AreTaken changes = Each (λ (change : SlotChange). change.actions ≡ None) changes

-- a replaced filter keeps its slot, or leaves it for another
abbrev pub moved_there : Row → Row → List ℕ → Bool → List SlotChange
moved_there old row serials same =
    if same then changed_there old serials ∷ [] else taken_there old ∷ put_there row ∷ []
