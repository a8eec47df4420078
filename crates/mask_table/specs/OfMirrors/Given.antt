-- What a call may use (this project's own): blocks and rows that were made free before.
use Rattle.store_history.specs.declared.places.TheConstants.{POOL_BLOCKS, ROWS}
use Rattle.std.specs.Prelude.{◌≡◌, ℕ, ◌<◌, List, Some, slice_get, All}
use Rattle.std.specs.List.{IsDistinct}
use Rattle.std.specs.Prelude.{eqb}
use Rattle.store_history.specs.declared.history.Commit.{Commit}
use Rattle.pin_store.specs.Calls.{IsUnnamed}
use Rattle.mask_table.specs.Buckets.{IsAmong}
use Rattle.mask_table.specs.declared.mirrors.mirror.Mirror.{Mirror}
use Rattle.mask_table.specs.declared.mirrors.mirror.KeptMask.{KeptMask}
use Rattle.mask_table.specs.OfMirrors.Kept.{Stands}

-- blocks of the pool, all different, that no chain has had since the base
pub record AreGiven {E : Type 0} (base : ℕ) (h : List (Commit E)) (blocks : List ℕ) : Type 0 where
  pub different : IsDistinct eqb blocks
  pub pool : (place b : ℕ) → slice_get blocks place ≡ Some b → b < POOL_BLOCKS
  pub free : (place b : ℕ) → slice_get blocks place ≡ Some b → IsUnnamed base h b

-- rows of the pool, all different, that no standing mask has
pub record AreFreeRows (mirror : Mirror) (rows : List ℕ) : Type 0 where
  pub different : IsDistinct eqb rows
  pub pool : All (λ row. row < ROWS) rows
  pub free : (slot row : ℕ) (kept : KeptMask) → Stands mirror slot kept → IsAmong row kept.mask.rows
      → IsAmong row rows → ⊥
