use Rattle.std.proofs.Common.{◌≡◌, ◌++◌, List}
use Rattle.pin_store.specs.Calls.{seen_by, sheet_of, IsSeatOf}
use Rattle.mask_table.specs.OfMirrors.Linked.{bucket_commits}
use Rattle.mask_build.specs.Laid.{Laid, places, IsLaid}
use Rattle.mask_build.proofs.naming.name_buckets.Given as goal

abbrev pub invariant-loop-bucket : goal.invariant-loop-bucket
invariant-loop-bucket g l = record {
  store : IsSeatOf l.store l.writer.place;
  seen : (xs : List Laid) → IsLaid l.mirror l.store.shape (sheet_of l.initial.writer.place).cells l.mask xs
      → seen_by l.writer.place ≡ seen_by l.initial.writer.place ++ bucket_commits l.mask (places xs) l.stamp l.bucket;
  sheet : sheet_of l.writer.place ≡ sheet_of l.initial.writer.place;
}
