-- What a root holds is right in the next state too, where the edit leaves what it tells of.
use Rattle.std.proofs.Common.{◌≡◌, ℕ, ◌⊎◌, inl, inr, List, Some, None, sym, ◌∙◌, subst}
use Rattle.store_history.specs.declared.history.Link.{Link}
use Rattle.store_history.specs.declared.history.Commit.{Commit}
use Rattle.store_history.specs.History.{root_of}
use Rattle.hook_law.specs.Places.{mask_root}
use Rattle.hook_law.specs.Records.{Codec}
use Rattle.hook_law.specs.Chains.{read_first, bucket_of}
use Rattle.hook_law.specs.Meaning.{Meaning, now_of, IsLive}
use Rattle.hook_law.specs.Standing.{IsMaskAt}
use Rattle.hook_law.specs.Telling.{ReadsHead, ReadsMask, ReadsBucket, ReadsAction}
use Rattle.hook_law.specs.Keeping.{IsAtRest}
use Rattle.hook_law.specs.Changes.{KeepsParams}

module _ {E S N P : Type 0} (K : Meaning E S N P) (R : Codec N P) where
  pub head_stays : (hook : ℕ) (chain : List Link) (s t : S) → K.heads t hook ≡ K.heads s hook → ReadsHead K R hook chain s
      → ReadsHead K R hook chain t
  head_stays hook chain s t same o = record { tables = o.tables; read = o.read; are = o.are ∙ sym same }

  pub bucket_stays : (m size k : ℕ) (chain : List Link) (s t : S) → bucket_of K.hash size k (K.filters t m) ≡ bucket_of K.hash size k (K.filters s m)
      → ReadsBucket K R m size k chain s → ReadsBucket K R m size k chain t
  bucket_stays m size k chain s t same o = record { filters = o.filters; read = o.read; are = o.are ∙ sym same }

  pub action_stays : (a : ℕ) (chain : List Link) (s t : S) → KeepsParams K s t → IsLive K t a → ReadsAction K R a chain s → ReadsAction K R a chain t
  action_stays a chain s t keeps live o = record { action = o.action; read = o.read; serial = o.serial; are = pick (keeps a o.action.params o.are) }
    where
      pick : (K.params t a ≡ Some o.action.params) ⊎ (K.params t a ≡ None) → K.params t a ≡ Some o.action.params
      pick (inl e) = e
      pick (inr gone) = absurd (live gone)

  -- a mask that is at rest has the size for the state before the next one
  pub mask_stays : (h : List (Commit E)) (m slot r : ℕ) (before next : S) → IsAtRest K R h → IsMaskAt R h m slot → r ≡ mask_root slot
      → K.words next m ≡ K.words (now_of K h) m
      → ReadsMask K R m (root_of h r).chain before (now_of K h) → ReadsMask K R m (root_of h r).chain (now_of K h) next
  mask_stays h m slot r before next rest at is same o = record {
    mask = o.mask;
    read = o.read;
    serial = o.serial;
    words = o.words ∙ sym same;
    size = inr (rest m slot o.mask at (subst (λ (z : ℕ). read_first R.mask (root_of h z).chain ≡ Some o.mask) is o.read));
    rows = o.rows;
  }
