use Rattle.std.proofs.Common.{◌∙◌, ◌++◌, length, ap, sym, subst, arith}
use Rattle.std.specs.Prelude.{All}
use Rattle.store_history.specs.History.{edits_of}
use Rattle.pin_store.specs.Calls.{number_of, IsNewReader}
use Rattle.shared_hook.specs.Views.{IsUnused}
use Rattle.job_rounds.proofs.Beginning.{all_front, many_mapped}
use Rattle.job_rounds.proofs.hooks.make_hooks.Goals as goal

pub take_readers-requires-clause-left : goal.take_readers-requires-clause-left
take_readers-requires-clause-left c =
    let eight = ap length c.in_ok-store.ensures.numbers in
    let many = many_mapped (λ r. number_of r.place) c.in_ok-store.passes.left.items in
    omega (arith, eight, many)

pub returns : goal.returns
returns c =
    let none = c.in_ok-readers.ensures.items in
    let taken = c.take_readers.ensures.taken ∙ ap (λ rs. rs ++ c.in_ok-store.passes.left.items) none in
    let count = c.take_readers.ensures.many in
    let empty = ap length none in
    record {
      shape = c.in_ok-store.ensures.shape;
      desk = c.in_ok-store.ensures.desk;
      new = ap edits_of c.in_ok-store.ensures.new.0;
      many = omega (arith, count, empty);
      readers = all_front (λ r. IsNewReader c.in_ok-store.store r.place) c.take_readers.new.readers.items c.take_readers.new.passes.left.items
          (subst (All (λ r. IsNewReader c.in_ok-store.store r.place)) (sym taken) c.in_ok-store.ensures.readers);
      unused = all_front IsUnused c.take_readers.new.readers.items c.take_readers.new.passes.left.items (subst (All IsUnused) (sym taken) c.in_ok-store.ensures.unused);
    }
