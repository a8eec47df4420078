use Rattle.std.proofs.Common.{◌≡◌, ◌++◌, ℕ, List}
use Rattle.store_history.specs.declared.history.Named.{Named}
use Rattle.pin_store.specs.declared.shape.Shape.{Shape}
use Rattle.mask_table.specs.OfMirrors.Kept.{Stands, IsKept}
use Rattle.mask_table.specs.OfMirrors.Forgetting.{bucket_blocks}
use Rattle.mask_table.proofs.mirrors.gathering.gather_buckets.Given as goal

abbrev pub invariant-loop-bucket : goal.invariant-loop-bucket
invariant-loop-bucket l = (slot : ℕ) (shape : Shape) (cells : List ℕ) (roots : ℕ → Named) → Stands l.mirror slot l.kept → IsKept l.mirror shape cells roots
    → l.left ≡ l.initial.left ++ bucket_blocks roots l.kept.mask l.bucket
