-- Filters keep the slots of their actions as a commit comes.
use Rattle.std.proofs.Common.{◌≡◌, ◌∙◌, ℕ, ◌≤◌, List, [], ◌∷◌, ◌++◌, length, map, refl, sym, ap}
use Rattle.store_history.specs.declared.history.Commit.{Commit}
use Rattle.filter_state.specs.declared.edit.Edit.{Edit}
use Rattle.filter_state.specs.Sound.{Sound}
use Rattle.block_codec.specs.declared.filter.StoredFilter.{StoredFilter}
use Rattle.hook_law.specs.Records.{Slotted, StatedFilter, stated_filter}
use Rattle.hook_law.specs.Standing.{IsIn, IsSlotOf}
use Rattle.hook_law.specs.Keeping.{Keeps}
use Rattle.hook_law.proofs.Standing.{slot_longer}
use Rattle.hook_store_law.specs.Stated.{hook_meaning, filters_at}
use Rattle.hook_store_law.specs.Blocks.{filter_record, hook_codec}
use Rattle.hook_store_law.specs.Told.{with_slots}
use Rattle.hook_store_law.specs.OfEdits.Premises.{now}
use Rattle.desk_masks.proofs.Slotting.{stored_stay, stored_own}

-- where all are stored alike, so are those of each part
parts_same : (f g : StatedFilter → StoredFilter) (earlier : List StatedFilter) (one : StatedFilter) (later : List StatedFilter) → map f (earlier ++ one ∷ later) ≡ map g (earlier ++ one ∷ later)
    → (map f earlier ≡ map g earlier) × (map f later ≡ map g later)
parts_same f g [] one later same = let rest : map f later ≡ map g later = cc same in (refl, rest)
parts_same f g (x ∷ earlier) one later same = let first : f x ≡ g x = cc same in let rest = parts_same f g earlier one later (cc same) in ((λ t. first t ∷ rest.0 t), rest.1)

module _ (h : List (Commit Edit)) (c : Commit Edit) (b : ℕ) (low : b ≤ length h) (keeps : Keeps hook_meaning hook_codec h b)
    (low2 : b ≤ length (h ++ c ∷ [])) (keeps2 : Keeps hook_meaning hook_codec (h ++ c ∷ []) b) where
  -- the filters of a state before the commit are stored as before
  pub stored_same : (mask : ℕ) → Sound (now h) → map (with_slots (h ++ c ∷ [])) (filters_at (now h) mask) ≡ map (with_slots h) (filters_at (now h) mask)
  stored_same mask sound = stored_stay h (h ++ c ∷ []) b low keeps low2 keeps2 (slot_longer hook_codec h (c ∷ [])) mask sound

  -- and so are those around one of them
  pub stored_around : (mask : ℕ) (earlier : List StatedFilter) (one : StatedFilter) (later : List StatedFilter) → Sound (now h) → filters_at (now h) mask ≡ earlier ++ one ∷ later
      → (map (with_slots (h ++ c ∷ [])) earlier ≡ map (with_slots h) earlier) × (map (with_slots (h ++ c ∷ [])) later ≡ map (with_slots h) later)
  stored_around mask earlier one later sound whole = parts_same (with_slots (h ++ c ∷ [])) (with_slots h) earlier one later
      (sym (ap (map (with_slots (h ++ c ∷ []))) whole) ∙ (stored_same mask sound ∙ ap (map (with_slots h)) whole))

  -- a filter whose names have slots is the stored one
  pub stored_new : (f : StoredFilter) → ((x : Slotted) → IsIn x (filter_record f).actions → IsSlotOf hook_codec h x.serial x.slot) → with_slots (h ++ c ∷ []) (stated_filter (filter_record f)) ≡ f
  stored_new f names = stored_own (h ++ c ∷ []) b low2 keeps2 f (λ x at. slot_longer hook_codec h (c ∷ []) x.serial x.slot (names x at))
