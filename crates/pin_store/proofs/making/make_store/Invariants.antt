use Rattle.std.proofs.Common.{◌≡◌, [], map}
use Rattle.std.specs.Prelude.{All}
use Rattle.pin_store.specs.Layout.{numbers_to}
use Rattle.pin_store.specs.Rule.{made_view}
use Rattle.pin_store.specs.Calls.{number_of, IsNewAt}
use Rattle.pin_store.proofs.making.make_store.Given as goal

abbrev pub invariant-loop-made : goal.invariant-loop-made
invariant-loop-made g l = record {
  table : l.place.table_id ≡ l.words.shared.table_id;
  view : l.place.me ≡ (made_view l.shape l.made, []);
  readers : All (λ r. IsNewAt l.words.shared.table_id l.shape r.place) l.left.items;
  numbers : map (λ r. number_of r.place) l.left.items ≡ numbers_to l.made;
}
