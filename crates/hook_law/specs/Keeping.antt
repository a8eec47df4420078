-- What the commits of a hook keep (this project's own).
use Rattle.std.specs.Prelude.{◌≡◌, ◌≢◌, ℕ, ◌+◌, ◌≤◌, ◌⊎◌, List, length, take, slice_get, Option, Some, None}
use Rattle.store_history.specs.declared.history.Commit.{Commit}
use Rattle.store_history.specs.History.{root_of, edits_of}
use Rattle.hook_law.specs.Places.{mask_root}
use Rattle.hook_law.specs.Records.{Slotted, MaskRecord, FilterRecord, Codec}
use Rattle.hook_law.specs.Chains.{read_all, read_first}
use Rattle.hook_law.specs.Meaning.{Meaning, point_of, now_of, IsLive}
use Rattle.hook_law.specs.Standing.{Region, Role, Bucket, IsIn, IsMaskAt, IsSlotOf, Stands}
use Rattle.hook_law.specs.Telling.{Tells}

-- a commit made at this point: a numbered one has the next number, as number and as stamp, and another one
-- the point's or the next number as stamp
abbrev pub IsStamped : {E : Type 0} → ℕ → Option (ℕ × E) → ℕ → Type 0
IsStamped point None stamp = (stamp ≡ point) ⊎ (stamp ≡ point + 1)
IsStamped point (Some numbered) stamp = (numbered.0 ≡ point + 1) × (stamp ≡ point + 1)

module _ {E S N P : Type 0} (K : Meaning E S N P) (R : Codec N P) where
  -- what holds of each history between two commits
  pub record Present (h : List (Commit E)) : Type 0 where
    pub lawful : K.Lawful (edits_of h)
    pub tells : (r : ℕ) (role : Role) → Stands K R h r role
        → Tells K R (edits_of h) role (root_of h r) (point_of h)
    -- a filter in a bucket names its actions with their slots
    pub slots : (r : ℕ) (q : Region) (k : ℕ) (fs : List FilterRecord) (f : FilterRecord) (x : Slotted)
        → Stands K R h r (Bucket q k)
        → read_all R.filter (root_of h r).chain ≡ Some fs → IsIn f fs → IsIn x f.actions
        → IsSlotOf R h x.serial x.slot
    -- an action has one slot, and a live one has a slot; a mask has one slot
    pub one_slot : (a s t : ℕ) → IsSlotOf R h a s → IsSlotOf R h a t → s ≡ t
    pub placed : (a : ℕ) → IsLive K (now_of K h) a → (slot : ℕ) × IsSlotOf R h a slot
    pub one_mask : (m s t : ℕ) → IsMaskAt R h m s → IsMaskAt R h m t → s ≡ t
    -- a root stands for one thing
    pub apart : (r : ℕ) (x y : Role) → Stands K R h r x → Stands K R h r y → x ≡ y

  -- The law. The base b is the number of commits since which readers may hold what the roots named.
  pub record Keeps (h : List (Commit E)) (b : ℕ) : Type 0 where
    pub present : (n : ℕ) → b ≤ n → n ≤ length h → Present (take n h)
    pub stamped : (n : ℕ) (c : Commit E) → slice_get h n ≡ Some c
        → IsStamped (point_of (take n h)) c.edit c.named.stamp
    -- where something stood at the root of a later commit since b, it stands there after that commit: what
    -- left gets none
    pub alone : (n m : ℕ) (c : Commit E) (x : Role) → b ≤ n → n ≤ m → slice_get h m ≡ Some c
        → Stands K R (take n h) c.root x → Stands K R (take (m + 1) h) c.root x
    -- since b a root stands for one thing
    pub apart : (n m r : ℕ) (x y : Role) → b ≤ n → n ≤ m → m ≤ length h → Stands K R (take n h) r x
        → Stands K R (take m h) r y
        → x ≡ y

  -- the mask's size is the one for its filters now
  abbrev pub HasItsSize : List (Commit E) → ℕ → Type 0
  HasItsSize h m = (slot : ℕ) (mask : MaskRecord) → IsMaskAt R h m slot
      → read_first R.mask (root_of h (mask_root slot)).chain ≡ Some mask
      → mask.size ≡ K.size_for (length (K.filters (now_of K h) m))

  -- each mask has its size, and each but the one with this serial has
  abbrev pub IsAtRest : List (Commit E) → Type 0
  IsAtRest h = (m : ℕ) → HasItsSize h m

  abbrev pub IsAtRestBut : List (Commit E) → ℕ → Type 0
  IsAtRestBut h but = (m : ℕ) → m ≢ but → HasItsSize h m
