use Rattle.std.proofs.Common.{◌≡◌, ◌+◌, length}
use Rattle.std.specs.Vec.Iter.{into_iter_items, into_iter_len}
use Rattle.job_rounds.proofs.Beginning.{AreMade}
use Rattle.job_rounds.proofs.workers.workers_of.Given as goal

abbrev pub invariant-loop-reader : goal.invariant-loop-reader
invariant-loop-reader l = record {
  left : into_iter_len l.reader-iterator ≡ length (into_iter_items l.reader-iterator);
  many : length l.workers.items + length (into_iter_items l.reader-iterator) ≡ length l.fn.readers.items;
  made : AreMade l.fn.readers.items (into_iter_items l.reader-iterator) l.workers.items;
}
