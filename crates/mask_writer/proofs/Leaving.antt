-- The blocks of a mask that gets another number of buckets: each has a filter that may be stored, and none is
-- given.
use Rattle.std.proofs.Common.{◌≡◌, ℕ, zero, suc, ◌<◌, ◌≤◌, List, [], ◌∷◌, length, get_or, slice_get, Option, Some, subst, arith}
use Rattle.std.specs.List.{All}
use Rattle.std.specs.List.Sorted.{IsPermutation}
use Rattle.std.proofs.lemmas.Option.{slice_get-get_or, slice_get_within, get_or_from_slice_get}
use Rattle.std.proofs.lemmas.List.Sorted.{All-permutation}
use Rattle.store_history.specs.declared.history.Commit.{Commit}
use Rattle.store_history.specs.History.{root_of}
use Rattle.pin_store.specs.declared.shape.Shape.{Shape}
use Rattle.pin_store.specs.Layout.{block_in, first_of}
use Rattle.block_codec.specs.declared.filter.StoredFilter.{StoredFilter}
use Rattle.mask_table.specs.Buckets.{bucket_root, IsAmong}
use Rattle.mask_table.specs.declared.mirrors.mirror.Mirror.{Mirror}
use Rattle.mask_table.specs.declared.mirrors.mirror.KeptMask.{KeptMask}
use Rattle.mask_table.specs.OfMirrors.Kept.{Stands, HasFilter, HoldsFilter, HoldFilters, IsKept}
use Rattle.mask_table.specs.OfMirrors.Given.{AreGiven}
use Rattle.mask_table.specs.OfMirrors.Forgetting.{bucket_blocks}
use Rattle.mask_table.proofs.OfMirrors.Chains.{spelled_low}
use Rattle.mask_table.proofs.OfMirrors.Keeping.{names_each, unnamed_now}
use Rattle.mask_table.proofs.OfMirrors.Forgetting.{bucket}
use Rattle.mask_order.proofs.Buckets.{all_to}

-- a block of a chain has what is kept for it
holds_at : (filters : List (Option StoredFilter)) (shape : Shape) (cells : List ℕ) (size k : ℕ) (bs : List ℕ) → HoldFilters filters shape cells size k bs → (i b : ℕ) → slice_get bs i ≡ Some b
    → (link : Option ℕ) × HoldsFilter filters shape cells size k b link
holds_at filters shape cells size k [] s i b e = absurd (cc e)
holds_at filters shape cells size k (c ∷ bs) s zero b e = let same : c ≡ b = cc in
    (block_in (first_of bs), subst (λ (x : ℕ). HoldsFilter filters shape cells size k x (block_in (first_of bs))) same s.0)
holds_at filters shape cells size k (c ∷ bs) s (suc i) b e = holds_at filters shape cells size k bs s.1 i b e

module _ {E : Type 0} (mirror : Mirror) (shape : Shape) (cells : List ℕ) (h : List (Commit E)) (slot base : ℕ) (kept : KeptMask) (given : List ℕ) (stands : Stands mirror slot kept)
    (keeps : IsKept mirror shape cells (root_of h)) (low : base ≤ length h) (are : AreGiven base h given) where
  abbrev IsOld : ℕ → Type 0
  IsOld b = HasFilter mirror.filters.items b × (IsAmong b given → ⊥)

  old_in : (k : ℕ) (less : k < kept.mask.size) → All IsOld (bucket mirror shape cells (root_of h) slot kept stands keeps k less).blocks
  old_in k less i d within =
      let own = bucket mirror shape cells (root_of h) slot kept stands keeps k less in let b = get_or own.blocks i d in let there = slice_get-get_or own.blocks i d within in
      let held = holds_at mirror.filters.items shape cells kept.mask.size k own.blocks own.chain.hold i b there in let f = held.1 in (
        record { pool = spelled_low mirror.next.items _ own.blocks own.chain.spelled i b there; filter = f.filter; kept = f.kept; storable = f.there.storable },
        λ among. unnamed_now base h b low (are.free among.0 b among.1) (bucket_root kept.mask k) (names_each (root_of h) (bucket_root kept.mask k) shape cells own.blocks own.named i b there),
      )

  pub all_old : (sorted : List ℕ) → IsPermutation (bucket_blocks (root_of h) kept.mask kept.mask.size) sorted → (i b : ℕ) → slice_get sorted i ≡ Some b → IsOld b
  all_old sorted moved i b e =
      let all = All-permutation IsOld (bucket_blocks (root_of h) kept.mask kept.mask.size) sorted moved (all_to mirror shape cells (root_of h) slot kept stands keeps IsOld old_in kept.mask.size (omega arith)) in
      subst IsOld (get_or_from_slice_get sorted i b 0 e) (all i 0 (slice_get_within sorted i b e))
