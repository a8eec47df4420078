-- What tidying leaves (this project's own).
use Rattle.std.specs.Prelude.{◌≡◌, ℕ, ◌+◌, ◌%◌, ◌⊎◌, List, [], ◌++◌, length, map, slice_get, slice_index_or}
use Rattle.std.specs.Prelude.{Some, None, true}
use Rattle.store_history.specs.declared.history.Commit.{Commit}
use Rattle.pin_store.specs.declared.note.Note.{Note}
use Rattle.pin_store.specs.declared.note.Note.TheVariants.{Unknown, Seen}
use Rattle.pin_store.specs.declared.scan.Scan.{Scan}
use Rattle.pin_store.specs.declared.scan.Scan.TheVariants.{Quiet, Pinned}
use Rattle.filter_state.specs.declared.edit.Edit.{Edit}
use Rattle.hook_law.specs.Standing.{IsUnused}
use Rattle.hook_store_law.specs.Stated.{hook_meaning}
use Rattle.hook_store_law.specs.Blocks.{hook_codec}
use Rattle.desk_pools.specs.OfNumbers.Numbers.{PoolNumbers}
use Rattle.desk_pools.specs.declared.pools.Pools.{Pools}
use Rattle.desk_pools.specs.Pools.{gone_roots}

-- a reader that is named had its pin loaded twice since the epoch began, and it was odd and the same
abbrev pub IsTwiceIn : List Note → Scan → Type 0
IsTwiceIn notes Quiet = Unit {0}
IsTwiceIn notes (Pinned reader pin) = (i : ℕ) × (reader ≡ i + 1)
    × (slice_index_or notes i Unknown ≡ Seen pin 2) × (pin % 2 ≡ 1)

-- the commit that empties a root: it has no number
abbrev pub empty_at : ℕ → ℕ → Commit Edit
empty_at point root = record { root = root; named = record { chain = []; stamp = point }; edit = None }

abbrev pub emptying : ℕ → List ℕ → List (Commit Edit)
emptying point roots = map (empty_at point) roots

-- nothing stands at these roots, and where the base is the end nothing did since
abbrev pub AreUnusedAtEnd : List (Commit Edit) → List ℕ → Type 0
AreUnusedAtEnd h roots = (place root : ℕ) → slice_get roots place ≡ Some root
    → IsUnused hook_meaning hook_codec (length h) h root

-- the commits of a tidying: those that empty what left, or none
pub record Empties (old : Pools) (h : List (Commit Edit)) (point : ℕ) (k : List (Commit Edit)) : Type 0 where
  pub roots : List ℕ
  pub which : (roots ≡ []) ⊎ (roots ≡ gone_roots old)
  pub unused : AreUnusedAtEnd h roots
  pub seen : k ≡ h ++ emptying point roots

-- a pool is as it was, or all that left is free
abbrev pub IsTidied : PoolNumbers → PoolNumbers → Type 0
IsTidied old new = (new.size ≡ old.size)
    × ((new ≡ old) ⊎ ((new.free ≡ old.free ++ old.left) × (new.left ≡ [])))

abbrev pub AreTidied : Pools → Pools → Type 0
AreTidied old new = IsTidied old.blocks new.blocks × IsTidied old.rows new.rows × IsTidied old.masks new.masks
    × IsTidied old.actions new.actions
    × (new.ingress.place ≡ old.ingress.place) × (new.egress.place ≡ old.egress.place)
    × (old.ingress.is_free ≡ true → new.ingress.is_free ≡ true)
    × (old.egress.is_free ≡ true → new.egress.is_free ≡ true)
