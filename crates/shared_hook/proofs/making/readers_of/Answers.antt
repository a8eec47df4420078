use Rattle.std.proofs.Common.{ap, subst}
use Rattle.std.specs.Prelude.{All}
use Rattle.std.proofs.lemmas.List.Elements.{All-head, All-rest, All-push}
use Rattle.pin_store.specs.Calls.{number_of, IsNewReader}
use Rattle.shared_hook.specs.Views.{IsUnused}
use Rattle.shared_hook.proofs.Readers.{values_go_over}
use Rattle.shared_hook.proofs.making.readers_of.Goals as goal

-- src/making.rt:53:24
pub new-requires : goal.new-requires
new-requires c = let rest = c.take.new.self.left.items in let reader = c.in-Some.reader in let all = c.loop-reader.invariant.rest in record {
  outside = (All-head (λ r. IsNewReader c.args.store.now r.place) reader rest (subst (All (λ r. IsNewReader c.args.store.now r.place)) c.in-Some.ensures all)).floor;
}

-- src/making.rt:52:5
pub loop-reader-preserved : goal.loop-reader-preserved
loop-reader-preserved c = let i = c.loop-reader.invariant in let new = c.in_ok-new.ensures in let items = c.in_ok-push_back.ensures.items in
    let moved = c.loop-reader.left.items in let made = c.in_ok-new.field-0 in let rest = c.take.new.self.left.items in let reader = c.in-Some.reader in
    let before = c.loop-reader.readers.left.items in
    let own = All-head (λ r. IsNewReader c.args.store.now r.place) reader rest (subst (All (λ r. IsNewReader c.args.store.now r.place)) c.in-Some.ensures i.rest) in record {
      made = rw items (All-push (λ r. IsNewReader c.args.store.now r.place) moved made i.made (rw new.place own));
      rest = All-rest (λ r. IsNewReader c.args.store.now r.place) reader rest before c.in-Some.ensures i.rest;
      numbers = rw items (values_go_over (λ r. number_of r.place) (λ r. number_of r.place) moved made reader rest before _ c.in-Some.ensures (ap (λ p. number_of p) new.place) i.numbers);
      unused = rw items (All-push IsUnused moved made i.unused (new.visits, new.latest));
    }
