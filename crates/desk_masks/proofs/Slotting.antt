-- Filters keep the slots of their actions as commits come.
use Rattle.std.proofs.Common.{◌≡◌, ◌∙◌, ℕ, zero, suc, ◌≤◌, List, [], ◌∷◌, length, map, slice_get, Some, sym, ap}
use Rattle.store_history.specs.declared.history.Commit.{Commit}
use Rattle.visit_room.specs.declared.names.ActionName.{ActionName}
use Rattle.filter_state.specs.declared.edit.Edit.{Edit}
use Rattle.filter_state.specs.States.{State}
use Rattle.filter_state.specs.Sound.{Each, Sound}
use Rattle.block_codec.specs.declared.filter.StoredFilter.{StoredFilter}
use Rattle.mask_table.specs.Buckets.{IsAmong}
use Rattle.hook_law.specs.Records.{Slotted, StatedFilter, serials_of, stated_filter}
use Rattle.hook_law.specs.Meaning.{now_of, IsLive}
use Rattle.hook_law.specs.Standing.{IsIn, IsSlotOf}
use Rattle.hook_law.specs.Keeping.{Keeps}
use Rattle.hook_law.specs.Slots.{slot_of}
use Rattle.hook_law.proofs.Slots.{slot_is}
use Rattle.hook_law.proofs.Standing.{present_end}
use Rattle.hook_store_law.specs.Stated.{hook_meaning, filters_at}
use Rattle.hook_store_law.specs.Blocks.{action_slotted, filter_record, hook_codec}
use Rattle.hook_store_law.specs.Told.{action_name, with_slots}
use Rattle.desk_masks.proofs.OfMaskResizes.Living.{AllLive, all_live}

-- ---- filters of which each action has one slot after some commits and after others
slots_same : (g h : List (Commit Edit)) (s : State) (actions : List ℕ) → ((a : ℕ) → IsLive hook_meaning s a → slot_of hook_codec h a ≡ slot_of hook_codec g a)
    → Each (λ (action : ℕ). IsLive hook_meaning s action) actions
    → ◌≡◌ {A = List Slotted} (map (λ (a : ℕ). record { serial = a; slot = slot_of hook_codec h a }) actions) (map (λ (a : ℕ). record { serial = a; slot = slot_of hook_codec g a }) actions)
slots_same g h s [] same all = refl_slots
  where
    refl_slots : ◌≡◌ {A = List Slotted} [] []
    refl_slots t = []
slots_same g h s (a ∷ more) same all = let one = same a all.0 in let rest = slots_same g h s more same all.1 in λ t. record { serial = a; slot = one t } ∷ rest t

filters_same : (g h : List (Commit Edit)) (s : State) (fs : List StatedFilter) → ((a : ℕ) → IsLive hook_meaning s a → slot_of hook_codec h a ≡ slot_of hook_codec g a)
    → AllLive s fs → map (with_slots h) fs ≡ map (with_slots g) fs
filters_same g h s [] same all = refl_filters
  where
    refl_filters : ◌≡◌ {A = List StoredFilter} [] []
    refl_filters t = []
filters_same g h s (f ∷ fs) same all = let one = slots_same g h s f.actions same all.0 in let rest = filters_same g h s fs same all.1 in
    λ t. record { handle = f.handle; key = record { words = f.key }; actions = map action_name (one t) } ∷ rest t

-- names that have the slots of their actions
own_names : (h : List (Commit Edit)) (names : List ActionName) → ((x : ActionName) → IsAmong x names → slot_of hook_codec h x.serial ≡ x.slot)
    → map action_name (map (λ (a : ℕ). record { serial = a; slot = slot_of hook_codec h a }) (serials_of (map action_slotted names))) ≡ names
own_names h [] own = refl_names
  where
    refl_names : ◌≡◌ {A = List ActionName} [] []
    refl_names t = []
own_names h (x ∷ xs) own = let one = own x (0, ap Some (λ t. x)) in let rest = own_names h xs (λ y m. own y (suc m.0, m.1)) in λ t. record { serial = x.serial; slot = one t } ∷ rest t

slotted_at : (names : List ActionName) (x : ActionName) (n : ℕ) → slice_get names n ≡ Some x → slice_get (map action_slotted names) n ≡ Some (action_slotted x)
slotted_at [] x n e = absurd (cc e)
slotted_at (y ∷ ys) x zero e = let same : y ≡ x = cc e in ap (λ (z : ActionName). Some (action_slotted z)) same
slotted_at (y ∷ ys) x (suc n) e = slotted_at ys x n e

-- ---- one list of commits that goes on in another
module _ (g h : List (Commit Edit)) (b : ℕ) (low : b ≤ length g) (keeps : Keeps hook_meaning hook_codec g b) (low2 : b ≤ length h) (keeps2 : Keeps hook_meaning hook_codec h b)
    (longer : (a s : ℕ) → IsSlotOf hook_codec g a s → IsSlotOf hook_codec h a s) where
  -- an action with a slot keeps it
  pub slot_stays : (a s : ℕ) → IsSlotOf hook_codec g a s → slot_of hook_codec h a ≡ slot_of hook_codec g a
  slot_stays a s w = sym (slot_is hook_meaning hook_codec h b a s low2 keeps2 (longer a s w)) ∙ slot_is hook_meaning hook_codec g b a s low keeps w

  live_slot : (a : ℕ) → IsLive hook_meaning (now_of hook_meaning g) a → slot_of hook_codec h a ≡ slot_of hook_codec g a
  live_slot a live = let p = (present_end hook_meaning hook_codec g b low keeps).placed a live in slot_stays a p.0 p.1

  -- the filters of the state before are stored as before
  pub stored_stay : (mask : ℕ) → Sound (now_of hook_meaning g) → map (with_slots h) (filters_at (now_of hook_meaning g) mask) ≡ map (with_slots g) (filters_at (now_of hook_meaning g) mask)
  stored_stay mask sound = filters_same g h (now_of hook_meaning g) (filters_at (now_of hook_meaning g) mask) live_slot (all_live (now_of hook_meaning g) mask sound)

-- a filter whose names have the slots of their actions is the stored one
pub stored_own : (h : List (Commit Edit)) (b : ℕ) → b ≤ length h → Keeps hook_meaning hook_codec h b → (f : StoredFilter)
    → ((x : Slotted) → IsIn x (filter_record f).actions → IsSlotOf hook_codec h x.serial x.slot) → with_slots h (stated_filter (filter_record f)) ≡ f
stored_own h b low keeps f names = let one = own_names h f.actions (λ x m. sym (slot_is hook_meaning hook_codec h b x.serial x.slot low keeps (names (action_slotted x) (m.0, slotted_at f.actions x m.0 m.1)))) in
    λ t. record { handle = f.handle; key = f.key; actions = one t }
