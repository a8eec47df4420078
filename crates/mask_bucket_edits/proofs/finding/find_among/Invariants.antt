use Rattle.std.proofs.Common.{ℕ, ◌<◌}
use Rattle.mask_bucket_edits.specs.Finding.{IsInBucket}
use Rattle.mask_bucket_edits.proofs.finding.find_among.Given as goal

abbrev pub invariant-loop-bucket : goal.invariant-loop-bucket
invariant-loop-bucket l = (k : ℕ) → k < l.bucket → IsInBucket l.mirror l.kept l.handle k → ⊥
