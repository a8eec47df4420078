use Rattle.std.proofs.Common.{◌≡◌, ◌+◌, ◌≤◌, subst, arith}
use mathlib.Core.Logic.{dite}
use native.Mathlib.Decide.{dec_le}
use Rattle.mask_bucket_edits.specs.Finding.{IsInBucket}
use Rattle.mask_bucket_edits.proofs.Buckets.{is_kept}
use Rattle.mask_bucket_edits.proofs.finding.find_among.Goals as goal

pub loop-bucket-preserved : goal.loop-bucket-preserved
loop-bucket-preserved c = λ k low there. dite (dec_le (k + 1) c.loop-bucket.bucket) (λ (less : k + 1 ≤ c.loop-bucket.bucket). c.loop-bucket.invariant k (omega arith) there)
    (λ (more : k + 1 ≤ c.loop-bucket.bucket → ⊥).
    let same : k ≡ c.loop-bucket.bucket = omega arith in
    c.find_at-in-loop-bucket.ensures.none c.in_default-find_at.is (subst (IsInBucket c.args.mirror.now c.args.kept.now c.args.handle) same there))

pub unreachable-requires : goal.unreachable-requires
unreachable-requires c = let w = c.requires.there in let over = c.loop-bucket-test.false in let within = w.9.within in
    c.loop-bucket.invariant w.9.bucket (omega arith) (is_kept c.args.mirror.now w.1 w.2 w.3 w.0 c.args.kept.now w.7 w.8 c.args.handle w.4 w.5 w.6 w.9)
