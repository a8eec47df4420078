-- The slot of an action, as the commits tell it (this project's own).
use Rattle.std.specs.Prelude.{ℕ, ◌-◌, ◌==◌, ◌&&◌, nat_lt, nat_le, Bool, false, List, [], ◌∷◌, map, Option}
use Rattle.std.specs.Prelude.{Some, None, if◌then◌else◌}
use Rattle.store_history.specs.declared.history.Commit.{Commit}
use Rattle.hook_law.specs.Places.{action_root, action_slots}
use Rattle.hook_law.specs.Records.{FilterRecord, StatedFilter, ActionRecord, Codec}
use Rattle.hook_law.specs.Chains.{read_first}

abbrev pub has_serial : {P : Type 0} → Option (ActionRecord P) → ℕ → Bool
has_serial None action = false
has_serial (Some put) action = put.serial == action

module _ {E N P : Type 0} (R : Codec N P) where
  -- the commit puts a record of the action to an action's root
  abbrev pub puts : Commit E → ℕ → Bool
  puts c action = nat_le (action_root 0) c.root
      && (nat_lt c.root (action_root action_slots) && has_serial (read_first R.action c.named.chain) action)

  -- the slot to which the first such commit puts it
  abbrev pub slot_of : List (Commit E) → ℕ → ℕ
  slot_of [] action = 0
  slot_of (c ∷ cs) action = if puts c action then c.root - action_root 0 else slot_of cs action

  -- a state's filter as blocks have it, with the slots of its actions
  abbrev pub slotted : List (Commit E) → StatedFilter → FilterRecord
  slotted h f = record {
    handle = f.handle;
    key = f.key;
    actions = map (λ (a : ℕ). record { serial = a; slot = slot_of h a }) f.actions;
  }
