-- What the chain of a root has to read as, in the states from its stamp up to a point (this project's own).
use Rattle.std.specs.Prelude.{◌≡◌, ℕ, ◌-◌, ◌*◌, ◌≤◌, ◌⊎◌, List, length, map, Some}
use Rattle.store_history.specs.declared.history.Link.{Link}
use Rattle.store_history.specs.declared.history.Named.{Named}
use Rattle.hook_law.specs.Places.{row_buckets}
use Rattle.hook_law.specs.Records.{TableRecord, MaskRecord, FilterRecord, ActionRecord, Codec, stated_table}
use Rattle.hook_law.specs.Records.{stated_filter}
use Rattle.hook_law.specs.Chains.{read_all, read_first, bucket_of}
use Rattle.hook_law.specs.Meaning.{Meaning, state_at}
use Rattle.hook_law.specs.Standing.{Role, Head, Mask, Bucket, Action}

module _ {E S N P : Type 0} (K : Meaning E S N P) where
  -- the size is the one for the mask's filters in this state, or in the state before it
  abbrev pub SizeFits : ℕ → ℕ → S → S → Type 0
  SizeFits size mask before now = (size ≡ K.size_for (length (K.filters now mask)))
      ⊎ (size ≡ K.size_for (length (K.filters before mask)))

  module _ (R : Codec N P) where
    -- the hook's tables in order, with their masks
    pub record ReadsHead (hook : ℕ) (chain : List Link) (now : S) : Type 0 where
      pub tables : List (TableRecord N)
      pub read : read_all R.table chain ≡ Some tables
      pub are : map stated_table tables ≡ K.heads now hook

    pub record ReadsMask (m : ℕ) (chain : List Link) (before now : S) : Type 0 where
      pub mask : MaskRecord
      pub read : read_first R.mask chain ≡ Some mask
      pub serial : mask.serial ≡ m
      pub words : mask.words ≡ K.words now m
      pub size : SizeFits mask.size m before now
      pub rows : length mask.rows * row_buckets ≡ mask.size

    -- the mask's filters of this bucket, the latest first
    pub record ReadsBucket (m size k : ℕ) (chain : List Link) (now : S) : Type 0 where
      pub filters : List FilterRecord
      pub read : read_all R.filter chain ≡ Some filters
      pub are : map stated_filter filters ≡ bucket_of K.hash size k (K.filters now m)

    pub record ReadsAction (a : ℕ) (chain : List Link) (now : S) : Type 0 where
      pub action : ActionRecord P
      pub read : read_first R.action chain ≡ Some action
      pub serial : action.serial ≡ a
      pub are : K.params now a ≡ Some action.params

    -- what a state asks of the chain of such a root; the state before it matters for a size alone
    abbrev pub Reads : Role → List Link → S → S → Type 0
    Reads (Head hook) chain before now = ReadsHead hook chain now
    Reads (Mask m) chain before now = ReadsMask m chain before now
    Reads (Bucket q k) chain before now = ReadsBucket q.mask q.size k chain now
    Reads (Action a) chain before now = ReadsAction a chain now

    -- what the root names is right in each state from its stamp up to the point
    pub record Tells (edits : List E) (role : Role) (named : Named) (point : ℕ) : Type 0 where
      pub early : named.stamp ≤ point
      pub reads : (k : ℕ) → named.stamp ≤ k → k ≤ point
          → Reads role named.chain (state_at K edits (k - 1)) (state_at K edits k)
