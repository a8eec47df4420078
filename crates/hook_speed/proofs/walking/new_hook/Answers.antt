use Rattle.std.proofs.Common.{◌≡◌, arith, subst}
use Rattle.std.specs.Prelude.{All}
use Rattle.std.proofs.lemmas.List.Elements.{All-head}
use Rattle.pin_store.specs.Calls.{IsNewReader, pin_of}
use Rattle.hook_speed.proofs.walking.new_hook.Goals as goal

pub returns-in-Some-clause-reader : goal.returns-in-Some-clause-reader
returns-in-Some-clause-reader c = let store = c.in_ok-store.store in let reader = c.in-Some.reader in
    let new = All-head (λ r. IsNewReader store r.place) reader c.take.new.self.left.items (subst (All (λ r. IsNewReader store r.place)) c.in-Some.ensures c.in_ok-store.ensures.readers) in
    new.seat

pub returns-in-Some-clause-outside : goal.returns-in-Some-clause-outside
returns-in-Some-clause-outside c = let store = c.in_ok-store.store in let reader = c.in-Some.reader in
    let new = All-head (λ r. IsNewReader store r.place) reader c.take.new.self.left.items (subst (All (λ r. IsNewReader store r.place)) c.in-Some.ensures c.in_ok-store.ensures.readers) in
    let out : pin_of reader.place ≡ 0 = new.pin in (omega arith, out)
