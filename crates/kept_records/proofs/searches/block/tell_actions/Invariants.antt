use Rattle.std.proofs.Common.{◌≡◌, ◌+◌, length, map, slice_range}
use Rattle.store_history.specs.declared.history.Link.{Link}
use Rattle.store_history.specs.History.{IsNamed}
use Rattle.pin_store.specs.Layout.{IsInShape}
use Rattle.pin_store.specs.Calls.{seen_by, floor_start, loads_of, IsSeatAt, IsSameButLoads}
use Rattle.block_codec.specs.Names.{action_in}
use Rattle.kept_records.proofs.searches.block.tell_actions.Given as goal

abbrev pub invariant-loop-place : goal.invariant-loop-place
invariant-loop-place g l = record {
  store : IsSeatAt l.store.words.shared.table_id l.store.shape l.reader.place;
  same : IsSameButLoads l.fn.reader.place l.reader.place;
  loads : loads_of l.reader.place ≡ loads_of l.fn.reader.place + 1 + l.place;
  steps : l.steps ≡ l.fn.steps + 1 + l.place;
  told : (d : Link) → IsNamed (floor_start l.fn.reader.place) (seen_by l.fn.reader.place) d → d.block ≡ l.block → IsInShape l.store.shape d → l.into ≡ map action_in (slice_range d.words 17 (17 + l.place));
  long : length l.into ≡ l.place;
}
