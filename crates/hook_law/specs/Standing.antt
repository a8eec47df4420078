-- What a root stands for after the commits of a history (this project's own).
use Rattle.std.specs.Prelude.{◌≡◌, ℕ, ◌<◌, ◌≤◌, List, length, take, slice_get, Some}
use Rattle.store_history.specs.declared.history.Link.{Link}
use Rattle.store_history.specs.declared.history.Commit.{Commit}
use Rattle.store_history.specs.History.{root_of}
use Rattle.hook_law.specs.Places.{hooks, mask_slots, action_slots, rows, head_root, mask_root, action_root}
use Rattle.hook_law.specs.Places.{bucket_root, row_of, place_of}
use Rattle.hook_law.specs.Records.{MaskRecord, ActionRecord, Codec}
use Rattle.hook_law.specs.Chains.{read_first, masks_of}
use Rattle.hook_law.specs.Meaning.{Meaning, now_of, IsLive}

-- the buckets that one record of a mask names, told by the slot, the mask, and the stamp and size in the
-- mask's root
pub record Region : Type 0 where
  pub slot : ℕ
  pub mask : ℕ
  pub stamp : ℕ
  pub size : ℕ

-- the region of a record that was read, by the slot, the mask's serial and the stamp of the mask's root
abbrev pub region_of : ℕ → ℕ → ℕ → MaskRecord → Region
region_of slot mask stamp record_read = record {
  slot = slot;
  mask = mask;
  stamp = stamp;
  size = record_read.size;
}

-- what a root can stand for: the head of a hook, a mask, a bucket of a region, or an action
pub data Role : Type 0 where
  Head : ℕ → Role
  Mask : ℕ → Role
  Bucket : Region → ℕ → Role
  Action : ℕ → Role

-- the list has it at some place
abbrev pub IsIn : {A : Type 0} → A → List A → Type 0
IsIn x xs = (place : ℕ) × (slice_get xs place ≡ Some x)

-- nothing is at two places of the list
abbrev pub AreDistinct : {A : Type 0} → List A → Type 0
AreDistinct {A} xs = (i j : ℕ) (x : A) → slice_get xs i ≡ Some x → slice_get xs j ≡ Some x → i ≡ j

-- the chain of a head names the mask with this slot
abbrev pub Names : {N P : Type 0} → Codec N P → List Link → ℕ → ℕ → Type 0
Names R chain mask slot = IsIn (record { serial = mask; slot = slot }) (masks_of R chain)

module _ {E N P : Type 0} (R : Codec N P) where
  -- the head of some hook does
  pub record IsMaskAt (h : List (Commit E)) (mask slot : ℕ) : Type 0 where
    pub hook : ℕ
    pub one : hook < hooks
    pub small : slot < mask_slots
    pub there : Names R (root_of h (head_root hook)).chain mask slot

  -- the record of a mask that a head names has this row for the region's bucket k
  pub record IsRowAt (h : List (Commit E)) (q : Region) (k row : ℕ) : Type 0 where
    pub mask : MaskRecord
    pub at_mask : IsMaskAt h q.mask q.slot
    pub read : read_first R.mask (root_of h (mask_root q.slot)).chain ≡ Some mask
    pub stamped : (root_of h (mask_root q.slot)).stamp ≡ q.stamp
    pub sized : mask.size ≡ q.size
    pub inside : k < q.size
    pub there : slice_get mask.rows (row_of k) ≡ Some row
    pub small : row < rows

  -- the commit puts a record of the action to the root of this slot
  pub record PutsAction (c : Commit E) (action slot : ℕ) : Type 0 where
    pub put : ActionRecord P
    pub root : c.root ≡ action_root slot
    pub small : slot < action_slots
    pub read : read_first R.action c.named.chain ≡ Some put
    pub serial : put.serial ≡ action

  -- some commit did
  pub record IsSlotOf (h : List (Commit E)) (action slot : ℕ) : Type 0 where
    pub place : ℕ
    pub commit : Commit E
    pub there : slice_get h place ≡ Some commit
    pub puts : PutsAction commit action slot

module _ {E S N P : Type 0} (K : Meaning E S N P) (R : Codec N P) where
  -- what a root stands for: a head always, a mask and its buckets where a head names it, an action where it
  -- is live
  abbrev pub Stands : List (Commit E) → ℕ → Role → Type 0
  Stands h r (Head hook) = (hook < hooks) × (r ≡ head_root hook)
  Stands h r (Mask m) = (slot : ℕ) × IsMaskAt R h m slot × (r ≡ mask_root slot)
  Stands h r (Bucket q k) = (row : ℕ) × IsRowAt R h q k row × (r ≡ bucket_root row (place_of k))
  Stands h r (Action a) = (slot : ℕ) × IsSlotOf R h a slot × (r ≡ action_root slot) × IsLive K (now_of K h) a

  -- the root stood for nothing after b of the commits, and after none of them since
  abbrev pub IsUnused : ℕ → List (Commit E) → ℕ → Type 0
  IsUnused b h r = (n : ℕ) (x : Role) → b ≤ n → n ≤ length h → Stands (take n h) r x → ⊥
