-- What each kind of numbered commit to another root than a head's has to meet (this project's own). The base
-- is b, the history before the commit is h, and y is the edit that it carries.
use Rattle.std.specs.Prelude.{◌≡◌, ℕ, ◌+◌, ◌%◌, ◌<◌, ◌⊎◌, List, [], ◌∷◌, ◌++◌, length, map, take, drop, Some}
use Rattle.store_history.specs.declared.history.Link.{Link}
use Rattle.store_history.specs.declared.history.Commit.{Commit}
use Rattle.store_history.specs.History.{root_of, edits_of}
use Rattle.hook_law.specs.Places.{action_slots, marker_root, action_root, bucket_root, place_of}
use Rattle.hook_law.specs.Records.{Slotted, FilterRecord, ActionRecord, StatedFilter, Codec, stated_filter}
use Rattle.hook_law.specs.Chains.{read_all, read_first, bucket_of}
use Rattle.hook_law.specs.Meaning.{Meaning, point_of, now_of, next_of, IsLive}
use Rattle.hook_law.specs.Standing.{Region, Role, IsIn, IsRowAt, IsSlotOf, IsUnused}
use Rattle.hook_law.specs.Telling.{Reads, ReadsAction}
use Rattle.hook_law.specs.Keeping.{IsAtRest}
use Rattle.hook_law.specs.Changes.{LeavesMasks, TouchesBucket, GainsFilter, SwapsFilter, LosesFilter}
use Rattle.hook_law.specs.Changes.{TouchesAction}

module _ {E S N P : Type 0} (K : Meaning E S N P) where
  -- the commit carries the edit, with the next number, which is its stamp too
  pub record Carries (h : List (Commit E)) (c : Commit E) (y : E) : Type 0 where
    pub number : c.edit ≡ Some (point_of h + 1, y)
    pub stamp : c.named.stamp ≡ point_of h + 1
    pub lawful : K.Lawful (edits_of h ++ y ∷ [])

module _ {E S N P : Type 0} (K : Meaning E S N P) (R : Codec N P) where
  -- the root, which stood for nothing, was given beforehand what the edit makes of the thing
  pub record IsPut (b : ℕ) (h : List (Commit E)) (y : E) (r : ℕ) (x : Role) : Type 0 where
    pub unused : IsUnused K R b h r
    pub stamp : (root_of h r).stamp ≡ point_of h + 1
    pub reads : Reads K R x (root_of h r).chain (now_of K h) (next_of K h y)

  pub record IsPutAction (b : ℕ) (h : List (Commit E)) (y : E) (a : ℕ) : Type 0 where
    pub slot : ℕ
    pub there : IsSlotOf R h a slot
    pub unused : IsUnused K R b h (action_root slot)
    pub stamp : (root_of h (action_root slot)).stamp ≡ point_of h + 1
    pub reads : ReadsAction K R a (root_of h (action_root slot)).chain (next_of K h y)

  -- the actions that the edit makes were put before
  abbrev pub PutsActions : ℕ → List (Commit E) → E → Type 0
  PutsActions b h y = (a : ℕ) → IsLive K (next_of K h y) a → IsLive K (now_of K h) a ⊎ IsPutAction b h y a

  -- an edit that no walk can see: qdisc add, qdisc del, actions del
  pub record Marks (h : List (Commit E)) (c : Commit E) (y : E) : Type 0 where
    pub rest : IsAtRest K R h
    pub root : c.root ≡ marker_root
    pub carries : Carries K h c y
    pub leaves : LeavesMasks K (now_of K h) (next_of K h y)
    pub none_made : (a : ℕ) → IsLive K (next_of K h y) a → IsLive K (now_of K h) a

  -- any edit of one bucket of a mask that stands: the chain reads as the bucket after the edit
  pub record RewritesBucket (b : ℕ) (h : List (Commit E)) (c : Commit E) (y : E) : Type 0 where
    pub region : Region
    pub k : ℕ
    pub row : ℕ
    pub filters : List FilterRecord
    pub rest : IsAtRest K R h
    pub at : IsRowAt R h region k row
    pub root : c.root ≡ bucket_root row (place_of k)
    pub carries : Carries K h c y
    pub read : read_all R.filter c.named.chain ≡ Some filters
    pub are : map stated_filter filters
        ≡ bucket_of K.hash region.size k (K.filters (next_of K h y) region.mask)
    pub touches : TouchesBucket K (now_of K h) (next_of K h y) region k
    pub names : (f : FilterRecord) (x : Slotted) → IsIn f filters → IsIn x f.actions
        → IsSlotOf R h x.serial x.slot
    pub made : PutsActions b h y

  -- filter add to a mask that stands: a link in front of the chain
  pub record AddsToBucket (b : ℕ) (h : List (Commit E)) (c : Commit E) (y : E) : Type 0 where
    pub region : Region
    pub k : ℕ
    pub row : ℕ
    pub link : Link
    pub filter : FilterRecord
    pub rest : IsAtRest K R h
    pub at : IsRowAt R h region k row
    pub root : c.root ≡ bucket_root row (place_of k)
    pub carries : Carries K h c y
    pub chain : c.named.chain ≡ link ∷ (root_of h c.root).chain
    pub read : R.filter link.words ≡ Some filter
    pub bucket : K.hash filter.key % region.size ≡ k
    pub gains : GainsFilter K (now_of K h) (next_of K h y) region.mask (stated_filter filter)
    pub names : (x : Slotted) → IsIn x filter.actions → IsSlotOf R h x.serial x.slot
    pub made : PutsActions b h y

  -- filter replace with the same mask and key: copies of the links of later filters, a link for the new
  -- filter, and the old chain behind the old one
  pub record ReplacesInBucket (b : ℕ) (h : List (Commit E)) (c : Commit E) (y : E) : Type 0 where
    pub region : Region
    pub k : ℕ
    pub row : ℕ
    pub earlier : List StatedFilter
    pub old : StatedFilter
    pub later : List StatedFilter
    pub copies : List Link
    pub link : Link
    pub filter : FilterRecord
    pub rest : IsAtRest K R h
    pub at : IsRowAt R h region k row
    pub root : c.root ≡ bucket_root row (place_of k)
    pub carries : Carries K h c y
    pub chain : c.named.chain ≡ copies ++ link ∷ drop (length copies + 1) (root_of h c.root).chain
    pub copied : read_all R.filter copies ≡ read_all R.filter (take (length copies) (root_of h c.root).chain)
    pub count : length copies ≡ length (bucket_of K.hash region.size k later)
    pub read : R.filter link.words ≡ Some filter
    pub old_bucket : K.hash old.key % region.size ≡ k
    pub new_bucket : K.hash filter.key % region.size ≡ k
    pub swaps : SwapsFilter K (now_of K h) (next_of K h y) region.mask earlier old
        (stated_filter filter) later
    pub names : (x : Slotted) → IsIn x filter.actions → IsSlotOf R h x.serial x.slot
    pub made : PutsActions b h y

  -- filter del that leaves the mask: copies of the links of later filters, and the old chain behind the
  -- filter
  pub record RemovesFromBucket (b : ℕ) (h : List (Commit E)) (c : Commit E) (y : E) : Type 0 where
    pub region : Region
    pub k : ℕ
    pub row : ℕ
    pub earlier : List StatedFilter
    pub old : StatedFilter
    pub later : List StatedFilter
    pub copies : List Link
    pub rest : IsAtRest K R h
    pub at : IsRowAt R h region k row
    pub root : c.root ≡ bucket_root row (place_of k)
    pub carries : Carries K h c y
    pub chain : c.named.chain ≡ copies ++ drop (length copies + 1) (root_of h c.root).chain
    pub copied : read_all R.filter copies ≡ read_all R.filter (take (length copies) (root_of h c.root).chain)
    pub count : length copies ≡ length (bucket_of K.hash region.size k later)
    pub old_bucket : K.hash old.key % region.size ≡ k
    pub loses : LosesFilter K (now_of K h) (next_of K h y) region.mask earlier old later
    pub made : PutsActions b h y

  -- actions add: a root that stood for nothing is given the record of an action without a slot
  pub record MakesAction (b : ℕ) (h : List (Commit E)) (c : Commit E) (y : E) : Type 0 where
    pub slot : ℕ
    pub put : ActionRecord P
    pub rest : IsAtRest K R h
    pub root : c.root ≡ action_root slot
    pub small : slot < action_slots
    pub unused : IsUnused K R b h c.root
    pub carries : Carries K h c y
    pub read : read_first R.action c.named.chain ≡ Some put
    pub first : (before : ℕ) → IsSlotOf R h put.serial before → ⊥
    pub touches : TouchesAction K (now_of K h) (next_of K h y) put.serial
    pub params : K.params (next_of K h y) put.serial ≡ Some put.params

  -- actions change: the root of a live action is given its record anew
  pub record ChangesAction (h : List (Commit E)) (c : Commit E) (y : E) : Type 0 where
    pub slot : ℕ
    pub put : ActionRecord P
    pub rest : IsAtRest K R h
    pub at : IsSlotOf R h put.serial slot
    pub live : IsLive K (now_of K h) put.serial
    pub root : c.root ≡ action_root slot
    pub carries : Carries K h c y
    pub read : read_first R.action c.named.chain ≡ Some put
    pub touches : TouchesAction K (now_of K h) (next_of K h y) put.serial
    pub params : K.params (next_of K h y) put.serial ≡ Some put.params
