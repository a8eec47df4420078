use Rattle.std.proofs.Common.{◌≡◌, ℕ, ◌+◌, ◌<◌, get_or}
use Rattle.store_history.specs.declared.history.Link.{Link}
use Rattle.store_history.specs.History.{IsNamed}
use Rattle.pin_store.specs.Calls.{seen_by, floor_start, loads_of, IsSeatAt, IsSameButLoads}
use Rattle.kept_records.proofs.searches.block.has_key.Given as goal

abbrev pub invariant-loop-place : goal.invariant-loop-place
invariant-loop-place g l = record {
  store : IsSeatAt l.store.words.shared.table_id l.store.shape l.reader.place;
  same : IsSameButLoads l.initial.reader.place l.reader.place;
  loads : loads_of l.reader.place ≡ loads_of l.initial.reader.place + l.place;
  steps : l.steps ≡ l.initial.steps + l.place;
  equal : (d : Link) (k : ℕ) → IsNamed (floor_start l.initial.reader.place) (seen_by l.initial.reader.place) d → d.block ≡ l.block → k < l.place → get_or d.words (3 + k) 0 ≡ get_or l.words k 0;
}
