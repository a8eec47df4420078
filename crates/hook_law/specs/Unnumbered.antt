-- What each kind of commit without a number has to meet (this project's own). The base is b, the history
-- before the commit is h.
use Rattle.std.specs.Prelude.{◌≡◌, ℕ, ◌+◌, ◌<◌, ◌⊎◌, List, [], slice_get, Some, None}
use Rattle.store_history.specs.declared.history.Commit.{Commit}
use Rattle.store_history.specs.declared.history.Named.{Named}
use Rattle.store_history.specs.History.{root_of}
use Rattle.hook_law.specs.Places.{rows, mask_root, bucket_root, row_of, place_of}
use Rattle.hook_law.specs.Records.{Slotted, MaskRecord, FilterRecord, Codec}
use Rattle.hook_law.specs.Chains.{read_all, read_first}
use Rattle.hook_law.specs.Meaning.{Meaning, point_of, now_of, before_of}
use Rattle.hook_law.specs.Standing.{AreDistinct, IsIn, IsMaskAt, PutsAction, IsSlotOf, IsUnused}
use Rattle.hook_law.specs.Telling.{ReadsMask, ReadsBucket}

-- no two commits of the list have one root
abbrev pub HaveOwnRoots : {E : Type 0} → List (Commit E) → Type 0
HaveOwnRoots {E} cs = (i j : ℕ) (c d : Commit E) → slice_get cs i ≡ Some c → slice_get cs j ≡ Some d
    → c.root ≡ d.root → i ≡ j

module _ {E S N P : Type 0} (K : Meaning E S N P) (R : Codec N P) where
  -- a commit to a root that stood for nothing since b: a new action, a row or a mask to come
  pub record Spares (b : ℕ) (h : List (Commit E)) (c : Commit E) : Type 0 where
    pub plain : c.edit ≡ None
    pub stamp : (c.named.stamp ≡ point_of h) ⊎ (c.named.stamp ≡ point_of h + 1)
    pub unused : IsUnused K R b h c.root
    -- an action that it puts has no slot yet
    pub first : (a slot before : ℕ) → PutsAction R c a slot → IsSlotOf R h a before → ⊥

  -- several such commits, one after the other: each is one after h, and no two put the same action
  pub record SparesAll (b : ℕ) (h cs : List (Commit E)) : Type 0 where
    pub each : (j : ℕ) (c : Commit E) → slice_get cs j ≡ Some c → Spares b h c
    pub once : (i j : ℕ) (c d : Commit E) (a s t : ℕ) → i < j → slice_get cs i ≡ Some c
        → slice_get cs j ≡ Some d
        → PutsAction R c a s → PutsAction R d a t → ⊥

  -- a commit that empties a root that stood for nothing since b, as tidying does
  pub record Empties (b : ℕ) (h : List (Commit E)) (c : Commit E) : Type 0 where
    pub plain : c.edit ≡ None
    pub stamp : (c.named.stamp ≡ point_of h) ⊎ (c.named.stamp ≡ point_of h + 1)
    pub unused : IsUnused K R b h c.root
    pub chain : c.named.chain ≡ []

  abbrev pub EmptiesAll : ℕ → List (Commit E) → List (Commit E) → Type 0
  EmptiesAll b h cs = (j : ℕ) (c : Commit E) → slice_get cs j ≡ Some c → Empties b h c

  -- what a root names reads as a bucket of the mask in the state s, and has the slots of the filters' actions
  pub record FillsBucket (h : List (Commit E)) (named : Named) (mask size k since : ℕ) (s : S) : Type 0 where
    pub stamp : named.stamp ≡ since
    pub reads : ReadsBucket K R mask size k named.chain s
    pub names : (fs : List FilterRecord) (f : FilterRecord) (x : Slotted)
        → read_all R.filter named.chain ≡ Some fs → IsIn f fs
        → IsIn x f.actions → IsSlotOf R h x.serial x.slot

  -- the root stood for nothing since b, and was filled for a bucket of the mask
  pub record IsFilled (b : ℕ) (h : List (Commit E)) (r mask size k since : ℕ) (s : S) : Type 0 where
    pub unused : IsUnused K R b h r
    pub fills : FillsBucket h (root_of h r) mask size k since s

  -- the last commit of a resize: the root of a mask that stands gets another record, and the roots of the new
  -- rows hold its filters already
  pub record Resizes (b : ℕ) (h : List (Commit E)) (c : Commit E) : Type 0 where
    pub serial : ℕ
    pub slot : ℕ
    pub mask : MaskRecord
    pub plain : c.edit ≡ None
    pub stamp : c.named.stamp ≡ point_of h
    pub root : c.root ≡ mask_root slot
    pub at : IsMaskAt R h serial slot
    pub read : read_first R.mask c.named.chain ≡ Some mask
    pub reads : ReadsMask K R serial c.named.chain (before_of K h) (now_of K h)
    pub filled : (k row : ℕ) → k < mask.size → slice_get mask.rows (row_of k) ≡ Some row → row < rows
        → IsFilled b h (bucket_root row (place_of k)) serial mask.size k (point_of h) (now_of K h)
    pub distinct : AreDistinct mask.rows

  -- some commit of the list fills the root for the mask's bucket k
  pub record IsFilledBy (h cs : List (Commit E)) (r mask size k : ℕ) : Type 0 where
    pub place : ℕ
    pub commit : Commit E
    pub there : slice_get cs place ≡ Some commit
    pub root : commit.root ≡ r
    pub fills : FillsBucket h commit.named mask size k (point_of h) (now_of K h)

  -- a whole resize after h: the commits cs, each to a root of its own, that fill the new rows, and then c to
  -- the mask's root.
  pub record ResizesWhole (b : ℕ) (h cs : List (Commit E)) (c : Commit E) : Type 0 where
    pub serial : ℕ
    pub slot : ℕ
    pub mask : MaskRecord
    pub spare : SparesAll b h cs
    pub own_roots : HaveOwnRoots cs
    pub plain : c.edit ≡ None
    pub stamp : c.named.stamp ≡ point_of h
    pub root : c.root ≡ mask_root slot
    pub at : IsMaskAt R h serial slot
    pub read : read_first R.mask c.named.chain ≡ Some mask
    pub reads : ReadsMask K R serial c.named.chain (before_of K h) (now_of K h)
    pub filled : (k row : ℕ) → k < mask.size → slice_get mask.rows (row_of k) ≡ Some row → row < rows
        → IsFilledBy h cs (bucket_root row (place_of k)) serial mask.size k
    pub distinct : AreDistinct mask.rows
