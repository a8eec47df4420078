-- Free roots, and roots that left, under a commit.
use Rattle.std.proofs.Common.{ℕ, ◌≤◌, List, [], ◌∷◌, ◌++◌, length}
use Rattle.store_history.specs.declared.history.Commit.{Commit}
use Rattle.hook_law.specs.Records.{Codec}
use Rattle.hook_law.specs.Meaning.{Meaning}
use Rattle.hook_law.specs.Standing.{Role, Stands, IsUnused}
use Rattle.hook_law.proofs.Standing.{unused_end, unused_push}
use Rattle.root_pool_laws.specs.Pools.{IsEmptyRoot}

module _ {E S N P : Type 0} (K : Meaning E S N P) (R : Codec N P) where
  -- what is free stands empty
  pub free_is_empty : (h : List (Commit E)) (b r : ℕ) → b ≤ length h → IsUnused K R b h r → IsEmptyRoot K R h r
  free_is_empty h b r low unused x s = unused_end K R h b r x low unused s

  -- with a commit with which nothing comes to stand at the root, an empty root stays empty
  pub empty_stays : (h : List (Commit E)) (c : Commit E) (r : ℕ)
      → ((x : Role) → Stands K R (h ++ c ∷ []) r x → Stands K R h r x)
      → IsEmptyRoot K R h r → IsEmptyRoot K R (h ++ c ∷ []) r
  empty_stays h c r back empty x s = empty x (back x s)

  -- and a free one free
  pub unused_stays : (h : List (Commit E)) (b : ℕ) (c : Commit E) (r : ℕ) → b ≤ length h
      → ((x : Role) → Stands K R (h ++ c ∷ []) r x → Stands K R h r x)
      → IsUnused K R b h r → IsUnused K R b (h ++ c ∷ []) r
  unused_stays h b c r low back unused = unused_push K R h b c r
      (empty_stays h c r back (free_is_empty h b r low unused)) unused
