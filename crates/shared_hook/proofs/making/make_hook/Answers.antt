use Rattle.std.proofs.Common.{◌∙◌, ℕ, ap}
use Rattle.atomic_table.specs.declared.shared.Seat.{Seat}
use Rattle.pin_store.specs.declared.view.View.{View}
use Rattle.pin_store.specs.Calls.{seen_by, sheet_of}
use Rattle.filter_state.specs.declared.edit.Edit.{Edit}
use Rattle.shared_hook.proofs.Rising.{none_left}
use Rattle.shared_hook.proofs.Fresh.{counted_new}
use Rattle.shared_hook.proofs.making.make_hook.Goals as goal

-- src/making.rt:26:8
pub new-requires-clause-shape : goal.new-requires-clause-shape
new-requires-clause-shape c = c.in_ok-store.ensures.writer.0.shaped ∙ c.in_ok-store.ensures.shape

-- src/making.rt:26:8
pub returns-clause-new : goal.returns-clause-new
returns-clause-new c = let store = c.in_ok-store.ensures in let parts = c.in-Ok.ensures in (
  ap (λ (p : Seat (Unit {0}) (View Edit)). seen_by p) parts.place ∙ store.writer.1,
  parts.lists,
  ap {B = ℕ} (λ (p : Seat (Unit {0}) (View Edit)). (sheet_of p).epoch) parts.place ∙ ap {B = ℕ} (λ s. s.epoch) store.sheet,
  none_left c.in-Ok.parts.pools parts.none,
)

pub invariant_of-result : goal.invariant_of-result
invariant_of-result c = let store = c.in_ok-store.ensures in let parts = c.in-Ok.ensures in let made = c.in-Ok.parts in record {
  desk = parts.desk;
  counted = counted_new made.pools (seen_by made.ledger.writer.place) (ap (λ (p : Seat (Unit {0}) (View Edit)). seen_by p) parts.place ∙ store.writer.1) parts.none parts.all;
}
