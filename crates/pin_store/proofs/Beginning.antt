-- The seats of a new store, as its readers are made one after the other.
use Rattle.std.proofs.Common.{◌≡◌, ℕ, ◌+◌, [], ap, ◌∙◌}
use Rattle.atomic_table.specs.Table.{Me}
use Rattle.atomic_table.specs.Seated.{TableId}
use Rattle.atomic_table.specs.declared.shared.Seat.{Seat}
use Rattle.pin_store.specs.declared.shape.Shape.{Shape}
use Rattle.pin_store.specs.declared.view.View.{View}
use Rattle.pin_store.specs.Rule.{made_view}
use Rattle.pin_store.specs.Kinds.{reader_view, counted_view}
use Rattle.pin_store.specs.Calls.{number_of, IsNewAt}

module _ {E : Type 0} (shape : Shape) (made : ℕ) where
  pub made_more : (old new : Me (Unit {0}) (View E)) → old ≡ (made_view shape made, []) → new ≡ (counted_view old.0, old.1) → new ≡ (made_view shape (made + 1), [])
  made_more old new view is = is ∙ ap (λ (m : Me (Unit {0}) (View E)). (counted_view m.0, m.1)) view

  pub reader_made_new : (id : TableId) (old : Me (Unit {0}) (View E)) (p : Seat (Unit {0}) (View E)) → old ≡ (made_view shape made, []) → p.table_id ≡ id → p.me ≡ (reader_view old.0, []) → IsNewAt id shape p
  reader_made_new id old p view table is = record {
    seat = record { table = table; shaped = ap (λ m. m.0.shape) is ∙ ap (λ m. m.0.shape) view; free = ap (λ m. m.1) is };
    pin = ap (λ m. m.0.pin) is;
    floor = ap (λ m. m.0.floor) is;
    seen = ap (λ m. m.0.seen) is ∙ ap (λ m. m.0.seen) view;
    loads = ap (λ m. m.0.loads) is;
  }

  pub number_made : (old : Me (Unit {0}) (View E)) (p : Seat (Unit {0}) (View E)) → old ≡ (made_view shape made, []) → p.me ≡ (reader_view old.0, []) → number_of p ≡ made + 1
  number_made old p view is = ap (λ m. m.0.number) is ∙ ap (λ m. m.0.sheet.made + 1) view
