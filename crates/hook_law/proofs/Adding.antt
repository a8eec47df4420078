-- The law after one more commit, from what it owes beyond the law before it.
use Rattle.std.proofs.Common.{◌≡◌, ℕ, ◌≤◌, ◌⊎◌, inl, inr, List, [], ◌∷◌, ◌++◌, length, take, Some, le_refl}
use Rattle.store_history.specs.declared.history.Commit.{Commit}
use Rattle.store_history.specs.History.{root_of, edits_of}
use Rattle.hook_law.specs.Records.{Slotted, FilterRecord, Codec}
use Rattle.hook_law.specs.Chains.{read_all}
use Rattle.hook_law.specs.Meaning.{Meaning, point_of, now_of, IsLive}
use Rattle.hook_law.specs.Standing.{Region, Role, Bucket, IsIn, IsMaskAt, IsSlotOf, Stands, IsUnused}
use Rattle.hook_law.specs.Telling.{Tells}
use Rattle.hook_law.specs.Keeping.{IsStamped, Keeps}
use Rattle.hook_law.proofs.Pushing.{keeps_push}
use Rattle.hook_law.proofs.Standing.{at_end, since_stood, unused_end}

module _ {E S N P : Type 0} (K : Meaning E S N P) (R : Codec N P) where
  -- What each kind of commit owes. What stands after it stood before, or its root was unused.
  pub record Adds (b : ℕ) (h : List (Commit E)) (c : Commit E) : Type 0 where
    pub lawful : K.Lawful (edits_of (h ++ c ∷ []))
    pub stamped : IsStamped (point_of h) c.edit c.named.stamp
    pub comes : (r : ℕ) (x : Role) → Stands K R (h ++ c ∷ []) r x → Stands K R h r x ⊎ IsUnused K R b h r
    pub tells : (r : ℕ) (x : Role) → Stands K R (h ++ c ∷ []) r x
        → Tells K R (edits_of (h ++ c ∷ [])) x (root_of (h ++ c ∷ []) r) (point_of (h ++ c ∷ []))
    pub alone : (n : ℕ) (x : Role) → b ≤ n → n ≤ length h → Stands K R (take n h) c.root x → Stands K R (h ++ c ∷ []) c.root x
    pub new_apart : (r : ℕ) (x y : Role) → IsUnused K R b h r → Stands K R (h ++ c ∷ []) r x → Stands K R (h ++ c ∷ []) r y → x ≡ y
    pub slots : (r : ℕ) (q : Region) (k : ℕ) (fs : List FilterRecord) (f : FilterRecord) (x : Slotted) → Stands K R (h ++ c ∷ []) r (Bucket q k)
        → read_all R.filter (root_of (h ++ c ∷ []) r).chain ≡ Some fs → IsIn f fs → IsIn x f.actions → IsSlotOf R (h ++ c ∷ []) x.serial x.slot
    pub one_slot : (a s t : ℕ) → IsSlotOf R (h ++ c ∷ []) a s → IsSlotOf R (h ++ c ∷ []) a t → s ≡ t
    pub one_mask : (m s t : ℕ) → IsMaskAt R (h ++ c ∷ []) m s → IsMaskAt R (h ++ c ∷ []) m t → s ≡ t
    pub placed : (a : ℕ) → IsLive K (now_of K (h ++ c ∷ [])) a → (slot : ℕ) × IsSlotOf R (h ++ c ∷ []) a slot

  pub adds_keep : (h : List (Commit E)) (b : ℕ) (c : Commit E) → b ≤ length h → Keeps K R h b → Adds b h c → Keeps K R (h ++ c ∷ []) b
  adds_keep h b c low k w = keeps_push K R h b c low k
      record {
        lawful = w.lawful;
        tells = w.tells;
        slots = w.slots;
        one_slot = w.one_slot;
        one_mask = w.one_mask;
        placed = w.placed;
        apart = λ r x y s t. both r x y s t (w.comes r x s) (w.comes r y t);
      }
      record {
        stamped = w.stamped;
        alone = w.alone;
        apart = λ n r x y lown le s t. since n r x y lown le s (w.comes r y t);
      }
    where
      since : (n r : ℕ) (x y : Role) → b ≤ n → n ≤ length h → Stands K R (take n h) r x → Stands K R h r y ⊎ IsUnused K R b h r → x ≡ y
      since n r x y lown le s (inl t) = since_stood K R h b n r x y k lown le s t
      since n r x y lown le s (inr u) = absurd (u n x lown le s)

      both : (r : ℕ) (x y : Role) → Stands K R (h ++ c ∷ []) r x → Stands K R (h ++ c ∷ []) r y → Stands K R h r x ⊎ IsUnused K R b h r
          → Stands K R h r y ⊎ IsUnused K R b h r → x ≡ y
      both r x y s t (inl p) q = since (length h) r x y low (le_refl (length h)) (at_end K R h r x p) q
      both r x y s t (inr u) (inl q) = absurd (unused_end K R h b r y low u q)
      both r x y s t (inr u) (inr v) = w.new_apart r x y u s t
