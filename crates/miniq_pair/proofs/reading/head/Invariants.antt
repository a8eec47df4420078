use Rattle.std.proofs.Common.{◌≡◌, ℕ, ◌+◌, ◌-◌, ◌*◌, ◌/◌, List, length, map, take, Some}
use Rattle.store_history.specs.History.{root_of}
use Rattle.store_history.specs.Reads.{read_all}
use Rattle.pin_store.specs.Calls.{seen_by, loads_of, IsSeatAt, IsSameButLoads}
use Rattle.block_codec.specs.declared.table.StoredTable.{StoredTable}
use Rattle.block_codec.specs.OfReadings.Read.{table_in}
use Rattle.block_chain.specs.Ways.{IsBefore}
use Rattle.miniq_pair.specs.Heads.{head_root, told_of}
use Rattle.miniq_pair.proofs.reading.head.Given as goal

abbrev pub invariant-loop-walk : goal.invariant-loop-walk
invariant-loop-walk g l = record {
  store : IsSeatAt l.store.words.shared.table_id l.store.shape l.reader.place;
  same : IsSameButLoads l.initial.reader.place l.reader.place;
  place : ℕ;
  before : IsBefore l.store.shape l.reader.place (head_root l.fn.hook) place l.walk.next;
  loads : loads_of l.reader.place ≡ loads_of l.initial.reader.place + 40 * place;
  steps : l.steps ≡ l.initial.steps + 40 * place;
  told : (tables : List StoredTable) → read_all table_in (root_of (seen_by l.initial.reader.place) (head_root l.fn.hook)).chain ≡ Some tables → l.into.tables ≡ map told_of (take place tables);
}

abbrev pub decreases-loop-walk : goal.decreases-loop-walk
decreases-loop-walk g l = length (root_of (seen_by l.initial.reader.place) (head_root l.fn.hook)).chain - (l.steps - l.initial.steps) / 40
