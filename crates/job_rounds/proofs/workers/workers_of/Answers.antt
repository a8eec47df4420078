use Rattle.std.proofs.Common.{◌∷◌, [], length, ap, arith}
use Rattle.std.proofs.lemmas.List.{length-append}
use Rattle.std.specs.Vec.Iter.{into_iter_items}
use Rattle.job_rounds.proofs.Beginning.{one_made, reader_there}
use Rattle.job_rounds.proofs.workers.workers_of.Goals as goal

pub loop-reader-preserved : goal.loop-reader-preserved
loop-reader-preserved c =
    let l = c.loop-reader in
    let next = c.in-Some.ensures.steps.0 in
    let less = c.in-Some.ensures.steps.1 in
    let long = ap length next in
    let left = l.invariant.left in
    let many = l.invariant.many in
    let pushed = c.in_ok-push.ensures.items in
    let longer = ap length pushed in
    let added = length-append l.workers.items (c.in_ok-worker_of.field-0 ∷ []) in
    let own = c.in_ok-worker_of.ensures in
    let number = own.0 in
    let count = c.len-in-loop-reader.ensures in
    let vec = l.workers.ok in
    record {
      left = omega (arith, left, less, long);
      many = omega (arith, many, long, longer, added);
      made = one_made c.args.readers.items (into_iter_items l.reader-iterator) (into_iter_items c.next.new.self) l.workers.items c.push.new.self.items _ c.in-Some.reader next own.1 (omega (arith, number, count, vec)) pushed l.invariant.made;
    }

pub returns : goal.returns
returns c = record {
  many = (let many = c.loop-reader.invariant.many in let none = c.in-None.ensures.steps.0 in let left = c.loop-reader.invariant.left in omega (arith, many, none, left));
  each = λ at worker is. (c.loop-reader.invariant.made.numbered at worker is, reader_there c.args.readers.items (into_iter_items c.loop-reader.reader-iterator) c.loop-reader.workers.items c.loop-reader.invariant.made at worker is);
}
