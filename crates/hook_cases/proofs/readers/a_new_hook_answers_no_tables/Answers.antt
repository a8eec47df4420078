use Rattle.std.proofs.Common.{◌≡◌, ◌∙◌, ◌<◌, List, ap, sym, subst, arith}
use Rattle.std.specs.Prelude.{All}
use Rattle.std.proofs.lemmas.List.Elements.{All-head}
use Rattle.atomic_table.specs.declared.shared.Seat.{Seat}
use Rattle.store_history.specs.declared.history.Commit.{Commit}
use Rattle.pin_store.specs.declared.view.View.{View}
use Rattle.pin_store.specs.Calls.{IsNewReader, IsSeatOf, IsOutside, pin_of}
use Rattle.filter_state.specs.declared.edit.Edit.{Edit}
use Rattle.hook_law.specs.Meaning.{point_of}
use Rattle.hook_cases.proofs.readers.a_new_hook_answers_no_tables.Goals as goal

abbrev Place : Type 0
Place = Seat (Unit {0}) (View Edit)

pub new-requires : goal.new-requires
new-requires g c = let made = c.in_ok-store.ensures in let store = c.in_ok-store.store in let reader = c.in-Some.reader in
    let new = All-head (λ r. IsNewReader store r.place) reader c.take.new.self.left.items (subst (All (λ r. IsNewReader store r.place)) c.in-Some.ensures made.readers) in
    record { outside = new.floor }

pub walk-requires-clause-store : goal.walk-requires-clause-store
walk-requires-clause-store g c = let made = c.in_ok-store.ensures in let store = c.in_ok-store.store in let reader = c.in-Some.reader in
    let new = All-head (λ r. IsNewReader store r.place) reader c.take.new.self.left.items (subst (All (λ r. IsNewReader store r.place)) c.in-Some.ensures made.readers) in
    (subst (λ (p : Place). IsSeatOf store p) (sym c.in_ok-reader.ensures.place) new.seat, made.shape)

pub walk-requires-clause-outside : goal.walk-requires-clause-outside
walk-requires-clause-outside g c = let made = c.in_ok-store.ensures in let store = c.in_ok-store.store in let reader = c.in-Some.reader in
    let new = All-head (λ r. IsNewReader store r.place) reader c.take.new.self.left.items (subst (All (λ r. IsNewReader store r.place)) c.in-Some.ensures made.readers) in
    subst (λ (p : Place). IsOutside p × (pin_of p < 9223372036854775808)) (sym c.in_ok-reader.ensures.place) (let out : pin_of reader.place ≡ 0 = new.pin in (omega arith, omega arith))

pub invariant_of-receipt : goal.invariant_of-receipt
invariant_of-receipt g c = let made = c.in_ok-store.ensures in record { at = sym (ap (λ (h : List (Commit Edit)). point_of h) (c.receipt.ensures.seen ∙ made.writer.1)) }
