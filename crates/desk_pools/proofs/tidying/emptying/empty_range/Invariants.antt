use Rattle.std.proofs.Common.{◌≡◌, ◌++◌, ℕ, ◌≤◌, length}
use Rattle.std.specs.List.{range_with_len}
use Rattle.pin_store.specs.Calls.{seen_by, sheet_of, IsSeatAt}
use Rattle.desk_pools.specs.OfTidying.Tidied.{emptying}
use Rattle.desk_pools.proofs.tidying.emptying.empty_range.Given as goal

abbrev pub invariant-loop-k : goal.invariant-loop-k
invariant-loop-k l = record {
  store : IsSeatAt l.store.words.shared.table_id l.store.shape l.writer.place;
  seen : seen_by l.writer.place ≡ seen_by l.initial.writer.place ++ emptying l.point (range_with_len l.first l.k);
  sheet : sheet_of l.writer.place ≡ sheet_of l.initial.writer.place;
}
