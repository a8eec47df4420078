-- What the numbered commit to a head's root has to meet: a new mask or table, one that goes, or masks at
-- other slots (this project's own). The base is b, the history before the commit is h, and y is the edit that
-- it carries.
use Rattle.std.specs.Prelude.{◌≡◌, ◌≢◌, ℕ, ◌+◌, ◌<◌, ◌⊎◌, List, [], ◌∷◌, ◌++◌, slice_get, Some}
use Rattle.store_history.specs.declared.history.Commit.{Commit}
use Rattle.store_history.specs.History.{root_of}
use Rattle.hook_law.specs.Places.{hooks, mask_slots, rows, head_root, mask_root, bucket_root, row_of}
use Rattle.hook_law.specs.Places.{place_of}
use Rattle.hook_law.specs.Records.{MaskRecord, Codec}
use Rattle.hook_law.specs.Chains.{read_first}
use Rattle.hook_law.specs.Meaning.{Meaning, point_of, now_of, next_of}
use Rattle.hook_law.specs.Standing.{Mask, AreDistinct, Names, IsMaskAt}
use Rattle.hook_law.specs.Telling.{ReadsHead}
use Rattle.hook_law.specs.Keeping.{IsAtRest}
use Rattle.hook_law.specs.Changes.{KeepsParams}
use Rattle.hook_law.specs.Unnumbered.{IsFilled}
use Rattle.hook_law.specs.Numbered.{Carries, IsPut, PutsActions}

module _ {E S N P : Type 0} (K : Meaning E S N P) (R : Codec N P) where
  -- a mask was put at the slot for the edit, and its rows were filled
  pub record IsPrepared (b : ℕ) (h : List (Commit E)) (y : E) (m slot : ℕ) : Type 0 where
    pub put : IsPut K R b h y (mask_root slot) (Mask m)
    pub record_read : MaskRecord
    pub read : read_first R.mask (root_of h (mask_root slot)).chain ≡ Some record_read
    pub filled : (k row : ℕ) → k < record_read.size → slice_get record_read.rows (row_of k) ≡ Some row
        → row < rows
        → IsFilled K R b h (bucket_root row (place_of k)) m record_read.size k (point_of h + 1)
        (next_of K h y)
    pub distinct : AreDistinct record_read.rows

  pub record ChangesHead (b : ℕ) (h : List (Commit E)) (c : Commit E) (y : E) : Type 0 where
    pub hook : ℕ
    pub rest : IsAtRest K R h
    pub one : hook < hooks
    pub root : c.root ≡ head_root hook
    pub carries : Carries K h c y
    pub reads : ReadsHead K R hook c.named.chain (next_of K h y)
    pub other_heads : (other : ℕ) → other ≢ hook → K.heads (next_of K h y) other ≡ K.heads (now_of K h) other
    -- each mask that the chain names had that slot, or was prepared there
    pub masks : (m slot : ℕ) → slot < mask_slots → Names R c.named.chain m slot → IsMaskAt R h m slot
        ⊎ IsPrepared b h y m slot
    -- the chain names no mask with two slots, and none that the other head names with another slot
    pub one_slot : (m s t : ℕ) → Names R c.named.chain m s → Names R c.named.chain m t → s ≡ t
    pub elsewhere : (m s t other : ℕ) → other < hooks → other ≢ hook → Names R c.named.chain m s
        → Names R (root_of h (head_root other)).chain m t → s ≡ t
    -- masks that were prepared have different slots, and no row in common
    pub slots_apart : (m n slot : ℕ) → Names R c.named.chain m slot → Names R c.named.chain n slot
        → IsPrepared b h y m slot
        → IsPrepared b h y n slot → m ≡ n
    pub rows_apart : (m n s t i j row : ℕ) (p : IsPrepared b h y m s) (q : IsPrepared b h y n t)
        → Names R c.named.chain m s
        → Names R c.named.chain n t
        → slice_get p.record_read.rows i ≡ Some row → slice_get q.record_read.rows j ≡ Some row → s ≡ t
    -- a mask that keeps its slot keeps its words and filters
    pub stays : (m slot : ℕ) → IsMaskAt R h m slot → IsMaskAt R (h ++ c ∷ []) m slot
        → (K.words (next_of K h y) m ≡ K.words (now_of K h) m)
        × (K.filters (next_of K h y) m ≡ K.filters (now_of K h) m)
    pub params : KeepsParams K (now_of K h) (next_of K h y)
    pub made : PutsActions K R b h y
