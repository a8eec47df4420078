-- The point of a look-up whose slot named no record.
use Rattle.std.proofs.Common.{◌≡◌, ℕ, List, Option, None, false, max, refl, sym, subst}
use Rattle.std.specs.Prelude.{MatchOption}
use mathlib.Core.List.{IsPrefix}
use Rattle.store_history.specs.declared.history.Commit.{Commit}
use Rattle.store_history.specs.History.{root_of}
use Rattle.store_history.specs.Reads.{read_first}
use Rattle.block_codec.specs.declared.mask.StoredMask.{StoredMask}
use Rattle.block_codec.specs.OfReadings.Read.{mask_of_words}
use Rattle.store_history.proofs.Histories.{prefix_self}
use Rattle.mask_table.specs.Buckets.{mask_root, key_root}
use Rattle.mask_table.specs.Told.{IsLoadedPoint}

module _ {E : Type 0} where
  -- the slot's root named no record
  pub no_record : (old first : List (Commit E)) (slot : ℕ) (key : List ℕ) (point : ℕ) → IsPrefix old first → read_first mask_of_words (root_of first (mask_root slot)).chain ≡ None
      → point ≡ (root_of first (mask_root slot)).stamp → IsLoadedPoint old first slot key false point
  no_record old first slot key point since none is = record {
    first = first;
    since = since;
    until = prefix_self first;
    stamps = subst (λ (o : Option StoredMask). MatchOption o ((false ≡ false) × (point ≡ (root_of first (mask_root slot)).stamp))
        (λ mask. point ≡ max (root_of first (mask_root slot)).stamp (root_of first (key_root mask key)).stamp)) (sym none) (refl, is);
  }
