-- What an edit leaves of a state, and what it changes (this project's own). The first state is the one before
-- the edit.
use Rattle.std.specs.Prelude.{◌≡◌, ◌≢◌, ℕ, ◌⊎◌, List, [], ◌∷◌, ◌++◌, Some, None}
use Rattle.hook_law.specs.Records.{StatedFilter}
use Rattle.hook_law.specs.Chains.{bucket_of}
use Rattle.hook_law.specs.Meaning.{Meaning}
use Rattle.hook_law.specs.Standing.{Region}

module _ {E S N P : Type 0} (K : Meaning E S N P) where
  -- a live action keeps its parameters or goes
  abbrev pub KeepsParams : S → S → Type 0
  KeepsParams s t = (a : ℕ) (params : P) → K.params s a ≡ Some params → (K.params t a ≡ Some params)
      ⊎ (K.params t a ≡ None)

  -- no mask and no table changes
  pub record LeavesMasks (s t : S) : Type 0 where
    pub heads : (hook : ℕ) → K.heads t hook ≡ K.heads s hook
    pub words : (m : ℕ) → K.words t m ≡ K.words s m
    pub filters : (m : ℕ) → K.filters t m ≡ K.filters s m
    pub params : KeepsParams s t

  -- only filters of the mask m change
  pub record LeavesOthers (s t : S) (m : ℕ) : Type 0 where
    pub heads : (hook : ℕ) → K.heads t hook ≡ K.heads s hook
    pub words : (n : ℕ) → K.words t n ≡ K.words s n
    pub filters : (n : ℕ) → n ≢ m → K.filters t n ≡ K.filters s n
    pub params : KeepsParams s t

  -- only filters of the region's bucket k change
  pub record TouchesBucket (s t : S) (q : Region) (k : ℕ) : Type 0 where
    pub others : LeavesOthers s t q.mask
    pub buckets : (i : ℕ) → i ≢ k → bucket_of K.hash q.size i (K.filters t q.mask)
        ≡ bucket_of K.hash q.size i (K.filters s q.mask)

  -- the mask m gains the filter, at the end of its filters
  pub record GainsFilter (s t : S) (m : ℕ) (f : StatedFilter) : Type 0 where
    pub others : LeavesOthers s t m
    pub filters : K.filters t m ≡ K.filters s m ++ f ∷ []

  -- in the mask m a filter takes the place of another
  pub record SwapsFilter (s t : S) (m : ℕ) (earlier : List StatedFilter) (old new : StatedFilter)
      (later : List StatedFilter) : Type 0 where
    pub others : LeavesOthers s t m
    pub before : K.filters s m ≡ earlier ++ old ∷ later
    pub after : K.filters t m ≡ earlier ++ new ∷ later

  -- the mask m loses a filter
  pub record LosesFilter (s t : S) (m : ℕ) (earlier : List StatedFilter) (old : StatedFilter)
      (later : List StatedFilter) : Type 0 where
    pub others : LeavesOthers s t m
    pub before : K.filters s m ≡ earlier ++ old ∷ later
    pub after : K.filters t m ≡ earlier ++ later

  -- only the action a changes, or comes
  pub record TouchesAction (s t : S) (a : ℕ) : Type 0 where
    pub heads : (hook : ℕ) → K.heads t hook ≡ K.heads s hook
    pub words : (m : ℕ) → K.words t m ≡ K.words s m
    pub filters : (m : ℕ) → K.filters t m ≡ K.filters s m
    pub params : (other : ℕ) → other ≢ a → K.params t other ≡ K.params s other
