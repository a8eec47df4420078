use Rattle.std.proofs.Common.{◌≡◌, arith, subst}
use Rattle.std.specs.Prelude.{All}
use Rattle.std.proofs.lemmas.List.Elements.{All-head}
use Rattle.pin_store.specs.Calls.{IsNewReader, pin_of}
use Rattle.hook_cases.proofs.laws.a_new_hook_has_nothing.Goals as goal

pub visit-told-requires-clause-store : goal.visit-told-requires-clause-store
visit-told-requires-clause-store g c = let made = c.in_ok-store.ensures in let store = c.in_ok-store.store in let reader = c.in-Some.reader in
    let new = All-head (λ r. IsNewReader store r.place) reader c.take.new.self.left.items (subst (All (λ r. IsNewReader store r.place)) c.in-Some.ensures made.readers) in
    (new.seat, made.shape)

pub visit-told-requires-clause-outside : goal.visit-told-requires-clause-outside
visit-told-requires-clause-outside g c = let made = c.in_ok-store.ensures in let store = c.in_ok-store.store in let reader = c.in-Some.reader in
    let new = All-head (λ r. IsNewReader store r.place) reader c.take.new.self.left.items (subst (All (λ r. IsNewReader store r.place)) c.in-Some.ensures made.readers) in
    let out : pin_of reader.place ≡ 0 = new.pin in (omega arith, omega arith)
