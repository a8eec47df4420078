use Rattle.std.proofs.Common.{◌≡◌, ◌++◌, ℕ, ◌≤◌, length, take}
use Rattle.pin_store.specs.Calls.{seen_by, sheet_of, IsSeatAt}
use Rattle.desk_pools.specs.Pools.{roots_of}
use Rattle.desk_pools.specs.OfTidying.Tidied.{emptying}
use Rattle.desk_pools.proofs.tidying.emptying.empty_each.Given as goal

abbrev pub invariant-loop-at : goal.invariant-loop-at
invariant-loop-at l = record {
  store : IsSeatAt l.store.words.shared.table_id l.store.shape l.writer.place;
  seen : seen_by l.writer.place ≡ seen_by l.initial.writer.place ++ emptying l.point (roots_of l.first l.width (take l.at l.numbers));
  sheet : sheet_of l.writer.place ≡ sheet_of l.initial.writer.place;
}
