use Rattle.std.proofs.Common.{◌≡◌, ◌≢◌, ℕ, ◌+◌, ◌-◌, ◌*◌, ◌<◌, ◌≤◌, List, length, slice_get, Some}
use Rattle.store_history.specs.History.{root_of}
use Rattle.store_history.specs.Reads.{read_all}
use Rattle.pin_store.specs.Calls.{seen_by, loads_of, IsSeatAt, IsSameButLoads}
use Rattle.block_codec.specs.declared.filter.StoredFilter.{StoredFilter}
use Rattle.block_codec.specs.OfReadings.Read.{filter_in}
use Rattle.block_chain.specs.Ways.{IsBefore}
use Rattle.kept_records.proofs.searches.finding.find_from.Given as goal

abbrev pub invariant-loop-ahead : goal.invariant-loop-ahead
invariant-loop-ahead g l = record {
  store : IsSeatAt l.store.words.shared.table_id l.store.shape l.reader.place;
  same : IsSameButLoads l.fn.reader.place l.reader.place;
  gone : ℕ;
  before : (place : ℕ) → IsBefore l.store.shape l.fn.reader.place l.root place l.next → IsBefore l.store.shape l.reader.place l.root (place + gone) l.ahead;
  loads : loads_of l.reader.place ≤ loads_of l.fn.reader.place + 40 * gone;
  grown : loads_of l.fn.reader.place ≤ loads_of l.reader.place;
  steps : l.steps + loads_of l.fn.reader.place ≡ l.fn.steps + loads_of l.reader.place;
  absent : (place j : ℕ) (there : List StoredFilter) (f : StoredFilter) → IsBefore l.store.shape l.fn.reader.place l.root place l.next → read_all filter_in (root_of (seen_by l.fn.reader.place) l.root).chain ≡ Some there
      → j < gone → slice_get there (place + j) ≡ Some f → f.key.words ≢ l.key.words;
}

abbrev pub decreases-loop-ahead : goal.decreases-loop-ahead
decreases-loop-ahead g l = 40 * length (root_of (seen_by l.fn.reader.place) l.root).chain - (l.steps - l.fn.steps)
