use Rattle.std.proofs.Common.{◌≡◌, arith, subst}
use Rattle.std.specs.Prelude.{All}
use Rattle.std.proofs.lemmas.List.Elements.{All-head}
use Rattle.pin_store.specs.Calls.{IsNewReader, pin_of}
use Rattle.hook_cases.proofs.stores.a_reader_sees_what_it_learnt.Goals as goal

pub join-requires-after_bounds : goal.join-requires-after_bounds
join-requires-after_bounds g c = let made = c.in_ok-store.ensures in let store = c.in_ok-store.store in let reader = c.in-Some.reader in
    let new = All-head (λ r. IsNewReader store r.place) reader c.take.new.self.left.items (subst (All (λ r. IsNewReader store r.place)) c.in-Some.ensures made.readers) in
    let out : pin_of reader.place ≡ 0 = new.pin in
    λ _. ((λ _ _ _ _. ((new.seat, made.shape), (c.commit_twice-receipt.ensures, (omega arith, omega arith)))), tt)
